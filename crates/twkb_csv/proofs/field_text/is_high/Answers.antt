use Rattle.std.proofs.Common.{◌≤◌, arith, get_or}
use Rattle.std.proofs.lemmas.Bool.Decides.{nat_tests}
use Rattle.twkb_csv.proofs.TextLemmas.{bare_all, bare_more, high_byte}
use Rattle.twkb_csv.proofs.field_text.is_high.Goals as goal

pub loop-byte-preserved : goal.loop-byte-preserved
loop-byte-preserved c = λ (most : 45 ≤ c.min-least.result). bare_more c.args.field.now c.loop-byte.byte-index
    c.loop-byte-test.true
    (c.loop-byte.invariant (omega (arith, c.min-least.ensures)))
    (high_byte (get_or c.args.field.now c.loop-byte.byte-index 0) (omega (arith, c.min-least.ensures)))

pub returns : goal.returns
returns c = λ high.
    let most : 45 ≤ c.loop-byte.least = grind (arith, nat_tests) in
    bare_all _ c.loop-byte.byte-index (omega (arith, c.loop-byte-test.false)) (c.loop-byte.invariant most)
