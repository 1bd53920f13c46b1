use Rattle.std.proofs.Common.{refl, arith}
use Rattle.twkb_blob.proofs.Leading.{changed_to, changed_past}
use Rattle.twkb_blob.proofs.spans.set_metadata.Goals as goal

pub returns-then-index-len : goal.returns-then-index-len
returns-then-index-len c =
    let span = c.index_mut.result.now in
    changed_to c.args.spans.now.items c.args.index (λ s. record s { metadata = c.args.metadata }) span
    (record span { metadata = c.args.metadata }) refl c.index_mut.ensures.value
    (omega (arith, c.if-index-len.true, c.len.ensures, c.args.spans.now.ok.0))

pub returns-else-index-len : goal.returns-else-index-len
returns-else-index-len c =
    changed_past c.args.spans.now.items c.args.index (λ s. record s { metadata = c.args.metadata })
    (omega (arith, c.if-index-len.false, c.len.ensures, c.args.spans.now.ok.0))
