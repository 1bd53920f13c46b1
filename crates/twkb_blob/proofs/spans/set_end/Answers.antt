use Rattle.std.proofs.Common.{arith}
use Rattle.twkb_blob.specs.Places.{measured}
use Rattle.twkb_blob.proofs.Leading.{changed_to, changed_past}
use Rattle.twkb_blob.proofs.spans.set_end.Goals as goal

pub returns-then-index-len : goal.returns-then-index-len
returns-then-index-len c =
    let span = c.index_mut-span.result.now in
    let sized = c.saturating_sub-span.ensures in
    let counted = c.saturating_sub-span-then-index-len.ensures in
    changed_to c.args.spans.now.items c.args.index (measured c.args.offset c.args.points) span _
    (λ t. record span { length = sized t; points = counted t }) c.index_mut-span.ensures.value
    (omega (arith, c.if-index-len.true, c.len.ensures, c.args.spans.now.ok.0))

pub returns-else-index-len : goal.returns-else-index-len
returns-else-index-len c =
    changed_past c.args.spans.now.items c.args.index (measured c.args.offset c.args.points)
    (omega (arith, c.if-index-len.false, c.len.ensures, c.args.spans.now.ok.0))
