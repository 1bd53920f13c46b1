use Rattle.std.proofs.Common.{arith}
use Rattle.twkb_table.proofs.FieldLemmas.{digit_more}
use Rattle.twkb_table.proofs.decimal.digits_of.Goals as goal

pub loop-at-preserved : goal.loop-at-preserved
loop-at-preserved c =
    let inv = c.loop-at.invariant in
    let spelled = digit_more c.args.field.now c.loop-at.at c.loop-at.number c.loop-at-test.true
    inv.some c.if-digit-lt48.false c.if-digit-gt57.false
    (omega (arith, c.if-digit-gt57.false, c.if-number-gt-MOST_BEFORE_A_DIGIT.false))
    inv.spelled in
    rw c.from.ensures (record {
      spelled = spelled;
      some = omega (arith, inv.some);
      fits = omega (arith, c.if-digit-gt57.false, c.if-number-gt-MOST_BEFORE_A_DIGIT.false);
    })
