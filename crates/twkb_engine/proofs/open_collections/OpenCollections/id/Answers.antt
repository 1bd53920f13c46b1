use Rattle.std.proofs.Common.{◌∙◌, sym, arith}
use Rattle.twkb_engine.proofs.Items.{innermost_id}
use Rattle.twkb_engine.proofs.open_collections.OpenCollections.id.Goals as goal

pub returns : goal.returns
returns c =
    c.first.ensures
    ∙ innermost_id c.self.inside.places.items c.as_slice.result.now c.args.self.now
    c.self.inside.count _ c.as_slice.ensures c.self.invariant (sym c.self.view_is)
    (omega (arith, c.if-self-eq0.false))
