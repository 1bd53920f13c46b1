use Rattle.std.proofs.Common.{arith}
use Rattle.csv.specs.Writing.{escaped}
use Rattle.twkb_hex.proofs.TextLemmas.{quoted_all, quoted_more}
use Rattle.twkb_hex.proofs.row_text.append_quoted.Goals as goal

pub loop-byte-init : goal.loop-byte-init
unfolding escaped
loop-byte-init c = c.in_ok-push.ensures.items

pub loop-byte-preserved : goal.loop-byte-preserved
loop-byte-preserved c = quoted_more _ _ _ _ _ _ c.loop-byte-test.true c.loop-byte.invariant
    c.in_ok-append_escaped.ensures

pub returns : goal.returns
returns c = quoted_all _ _ _ _ _ c.loop-byte.byte-index (omega (arith, c.loop-byte-test.false)) c.loop-byte.invariant
    c.in_ok-push-2.ensures.items
