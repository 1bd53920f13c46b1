use Rattle.std.proofs.Common.{SFits, w64, arith, refl, rules, get_or}
use Rattle.std.proofs.lemmas.Int.{to_z-of_z}
use Rattle.twkb_buffer.proofs.RoundingLemmas.{AreScales, IsUnit-few, rounds_more}
use Rattle.twkb_buffer.proofs.rounded_numbers.round_moderate.Goals as goal

pub loop-at-preserved : goal.loop-at-preserved
loop-at-preserved c = λ old before.
    let scales : AreScales c.args.multiplier.factor 1 = record {
      factor_some = c.requires.multiplier.positive;
      factor_fits = c.requires.multiplier.small;
      divisor_some = omega arith;
      divisor_fits = omega arith;
    } in
    let fits : SFits w64 c.signed.result = search rules in
    let number = get_or c.args.numbers.now c.loop-at.at 0 in
    simp (to_z-of_z w64 c.signed.result fits)
    (rounds_more (c.loop-at.invariant old before) c.loop-at-test.true (omega (arith, before.as_many))
    (IsUnit-few c.args.multiplier.factor 1 number c.in-Some.size c.signed.result scales
    (c.in-Some.ensures.finite refl) c.in-Some.ensures.few c.in-Some.ensures.nearest c.signed.ensures))
