use Rattle.std.proofs.Common.{◌≡◌, drop}
use Rattle.std.specs.Prelude.{flat_map}
use Rattle.twkb_points.specs.Extent.{extent, joined_options}
use Rattle.twkb_tree.proofs.with_points.joined_bounds.Given as goal

abbrev pub invariant-loop-item : goal.invariant-loop-item
invariant-loop-item g l =
    joined_options (l.bounds) (extent (flat_map g.T.WithPoints.points_of (drop l.item-index l.items)))
    ≡ extent (flat_map g.T.WithPoints.points_of l.items)
