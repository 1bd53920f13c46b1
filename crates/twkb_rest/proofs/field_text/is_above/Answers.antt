use Rattle.std.proofs.Common.{◌<◌, arith, get_or}
use Rattle.std.proofs.lemmas.Bool.Decides.{nat_tests}
use Rattle.twkb_rest.proofs.TextLemmas.{bare_all, bare_more, high_byte}
use Rattle.twkb_rest.proofs.field_text.is_above.Goals as goal

pub loop-byte-preserved : goal.loop-byte-preserved
loop-byte-preserved c = λ above high. bare_more c.args.delimiter c.args.field.now c.loop-byte.byte-index
    c.loop-byte-test.true
    (c.loop-byte.invariant (omega (arith, c.min-least.ensures, above)) (omega (arith, c.min-least.ensures, high)))
    (high_byte c.args.delimiter (get_or c.args.field.now c.loop-byte.byte-index 0)
    (omega (arith, c.min-least.ensures, above)) (omega (arith, c.min-least.ensures, high)))

pub returns-then-least-delimiter : goal.returns-then-least-delimiter
returns-then-least-delimiter c = λ high.
    let above : c.args.delimiter < c.loop-byte.least = grind (arith, nat_tests) in
    let most : 34 < c.loop-byte.least = grind (arith, nat_tests) in
    bare_all _ _ c.loop-byte.byte-index (omega (arith, c.loop-byte-test.false)) (c.loop-byte.invariant above most)
