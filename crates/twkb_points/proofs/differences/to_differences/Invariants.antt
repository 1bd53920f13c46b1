use Rattle.std.proofs.Common.{◌≡◌, ◌++◌, length, take, drop}
use Rattle.twkb_points.specs.Steps.{differences_from, differences}
use Rattle.twkb_points.proofs.differences.to_differences.Given as goal

-- the differences written, and those that the points left will give, are the differences of all
-- points
abbrev pub invariant-loop-i : goal.invariant-loop-i
invariant-loop-i l = record {
  written : take l.i l.deltas ++ differences_from l.cursor (drop l.i l.points) ≡ differences l.points;
  as_many : length l.deltas ≡ length l.points;
}
