use Rattle.std.proofs.Common.{◌≡◌, Some, drop}
use Rattle.twkb_points.specs.Extent.{joined_options, extent}
use Rattle.twkb_points.proofs.bounds.Bounds.around.Given as goal

-- the bounds so far, joined with those of the points left, are the bounds of all points
abbrev pub invariant-loop-point : goal.invariant-loop-point
invariant-loop-point l = joined_options (Some l.bounds) (extent (drop l.point-index l.others)) ≡ extent l.points
