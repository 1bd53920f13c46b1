use Rattle.std.proofs.Common.{None}
use Rattle.twkb_tree.specs.declared.kind.Kind.{Kind}
use Rattle.twkb_flat.proofs.BuildLemmas.{component_rings_at}
use Rattle.twkb_flat.proofs.components.LinesComponent.take.Goals as goal

pub take_each-requires : goal.take_each-requires
take_each-requires c =
    let w = c.requires.stands in (
      Kind.Ring,
      None,
      w.3,
      w.4,
      component_rings_at c.args.flat.now c.args.at w.0 w.1 w.2 w.3 w.4
          c.row-row.result w.5 c.row-row.ensures.row,
    )

pub returns : goal.returns
returns c = λ kind d id component rest it.
    let taken = c.in_ok-rings.ensures Kind.Ring None component rest
    (component_rings_at c.args.flat.now c.args.at kind d id component rest c.row-row.result it
    c.row-row.ensures.row) in
    (taken.0, taken.2)
