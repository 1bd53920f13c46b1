-- The points so far are appended, and there is room for the others.
use Rattle.std.proofs.Common.{◌≡◌, ◌+◌, ◌≤◌, ◌++◌, length, take, vec_len, vec_capacity}
use Rattle.twkb_points.proofs.tail.VecPtPointTail.put_all.Given as goal

abbrev pub invariant-loop-point : goal.invariant-loop-point
invariant-loop-point l = record {
  appended : l.self.items ≡ l.fn.self.items ++ take l.point-index l.points;
  room : vec_len l.self + length l.points ≤ vec_capacity l.self + l.point-index;
}
