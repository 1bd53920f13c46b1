-- The components so far were taken, and the others are at the place.
use Rattle.std.proofs.Common.{List, length, drop}
use Rattle.twkb_tree.specs.declared.kind.Kind.{Kind}
use Rattle.twkb_tree.specs.Tree.{Ids}
use Rattle.twkb_tree.specs.Rows.{Row}
use Rattle.twkb_flat.specs.Taking.{component_rows, EachAt, IsAny}
use Rattle.twkb_flat.proofs.BuildLemmas.{Left}
use Rattle.twkb_flat.proofs.built_geometry.take_each.Given as goal

abbrev pub invariant-loop-alloc : goal.invariant-loop-alloc
invariant-loop-alloc g l =
    (kind : Kind) (ids : Ids) (components : List g.row.T.Denot) (rest : List Row)
    → EachAt IsAny (component_rows g.T.Component.own g.T.Component.below kind l.depth) l.flat l.start l.depth
    ids components rest
    → Left IsAny (component_rows g.T.Component.own g.T.Component.below kind l.depth) l.flat ids components rest l.at
    l.components.items l.ids.items

abbrev pub decreases-loop-alloc : goal.decreases-loop-alloc
decreases-loop-alloc g l = length (drop l.at l.flat)
