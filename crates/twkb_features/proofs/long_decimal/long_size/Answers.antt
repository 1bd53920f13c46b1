use Rattle.std.proofs.Common.{None, Some, arith, ap, length, subst, w8}
use Rattle.std.proofs.lemmas.Int.{to_z-of_z}
use Rattle.twkb_features.specs.Digits.{IsPoint}
use Rattle.twkb_features.proofs.LongLemmas.{long_tiny, long_cut, long_raised}
use Rattle.twkb_features.proofs.long_decimal.long_size.Goals as goal

pub returns-in_default : goal.returns-in_default
returns-in_default c =
    long_tiny c.args.precision c.args.numeral.now c.whole-whole.ensures.digits
    (subst (λ z. IsPoint z c.args.numeral.now None)
    (to_z-of_z w8 c.args.precision c.ranges.precision) c.in_default.ensures)

pub returns-then-point-count : goal.returns-then-point-count
returns-then-point-count c =
    let found = rw (c.whole-whole.ensures.value, c.fraction-fraction.ensures) at c.cut_size.ensures in
    long_cut c.args.precision c.args.numeral.now c.in-Some.point c.cut_size.result
    (subst (λ z. IsPoint z c.args.numeral.now (Some c.in-Some.point))
    (to_z-of_z w8 c.args.precision c.ranges.precision) c.in-Some.ensures)
    (omega (arith, ap length c.whole-whole.ensures.value, ap length c.fraction-fraction.ensures)) found

pub returns-else-point-count : goal.returns-else-point-count
returns-else-point-count c =
    let found = rw (c.whole-whole.ensures.value, c.fraction-fraction.ensures) at c.raised_size.ensures in
    long_raised c.args.precision c.args.numeral.now c.in-Some.point c.raised_size.result
    (subst (λ z. IsPoint z c.args.numeral.now (Some c.in-Some.point))
    (to_z-of_z w8 c.args.precision c.ranges.precision) c.in-Some.ensures)
    (omega (arith, ap length c.whole-whole.ensures.value, ap length c.fraction-fraction.ensures)) found
