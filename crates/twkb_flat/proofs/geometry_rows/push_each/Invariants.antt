-- The rows of the components so far come after the old ones.
use Rattle.twkb_flat.specs.Taking.{component_rows}
use Rattle.twkb_flat.proofs.BuildLemmas.{HasRows}
use Rattle.twkb_flat.proofs.geometry_rows.push_each.Given as goal

abbrev pub invariant-loop-component : goal.invariant-loop-component
invariant-loop-component g l = HasRows (component_rows g.T.Component.own g.T.Component.below l.kind l.depth) l.ids
    l.components l.component-index l.index l.fn.flat l.flat
