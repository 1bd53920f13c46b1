use Rattle.std.proofs.Common.{◌≡◌, ◌++◌, length, take, drop}
use Rattle.twkb_points.specs.Steps.{points_from, points_of}
use Rattle.twkb_points.proofs.differences.to_points.Given as goal

-- the points written, and those that the differences left lead to, are the points of all
-- differences; the places after them are unchanged
abbrev pub invariant-loop-i : goal.invariant-loop-i
invariant-loop-i l = record {
  written : take l.i l.points ++ points_from l.cursor (drop l.i l.deltas) ≡ points_of l.deltas;
  left : drop l.i l.points ≡ drop l.i l.initial.points;
  as_many : length l.points ≡ length l.deltas;
}
