use Rattle.std.proofs.Common.{◌≡◌, ◌+◌, List, ◌<◌, sym, subst, map}
use Rattle.twkb_tree.specs.Open.{ids_by}
use Rattle.std.specs.Prelude.{slice_get}
use Rattle.twkb_flat.specs.declared.kept_nodes.KeptNode.{KeptNode}
use Rattle.twkb_flat.specs.Rows.{levels, OpenPlace}
use Rattle.twkb_flat.specs.KeptNodes.{depths_in, listed, placed_of}
use Rattle.twkb_flat.proofs.FlatOpenLemmas.{flat_levels, row_open}
use Rattle.twkb_flat.proofs.flat.Flat.open_row.Goals as goal

pub open_at-at-requires-clause-within : goal.open_at-at-requires-clause-within
open_at-at-requires-clause-within c =
    subst (λ (es : List KeptNode). c.args.depth < levels (depths_in es)) (sym c.deref.ensures.value)
    (subst (λ n. c.args.depth < n) (flat_levels _ c.self.inside.points.items _ c.self.view_is) c.requires)

pub returns : goal.returns
returns c =
    row_open c.self.inside.kept.items c.self.inside.points.items _ c.args.depth
    c.open_at-at.result c.index.result.now c.child_ids.result c.self.invariant c.self.view_is
    (subst (λ (es : List KeptNode). OpenPlace (depths_in es) c.args.depth c.open_at-at.result)
    c.deref.ensures.value c.open_at-at.ensures) c.index.ensures
    (subst (λ (es : List KeptNode). c.child_ids.result ≡ ids_by
    (slice_get (listed (map placed_of es) c.self.inside.points.items) (c.open_at-at.result + 1)))
    c.deref-2.ensures.value (c.child_ids.ensures c.self.inside.points.items))
