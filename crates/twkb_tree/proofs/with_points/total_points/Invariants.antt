use Rattle.std.proofs.Common.{◌≡◌, ◌+◌, ◌^◌, ◌<◌, length, drop}
use Rattle.std.specs.Prelude.{flat_map}
use Rattle.twkb_tree.specs.Tree.{saturated}
use Rattle.twkb_tree.proofs.with_points.total_points.Given as goal

abbrev pub invariant-loop-item : goal.invariant-loop-item
invariant-loop-item g l =
    (l.total < 2 ^ 64) × (saturated (l.total + length
    (flat_map g.T.WithPoints.points_of (drop l.item-index l.items))) ≡ saturated
    (length (flat_map g.T.WithPoints.points_of l.items)))
