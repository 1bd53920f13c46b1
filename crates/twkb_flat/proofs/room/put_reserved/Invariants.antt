-- The points so far are appended, and there is room for the others.
use Rattle.std.proofs.Common.{◌≡◌, ◌+◌, ◌≤◌, ◌++◌, length, take, vec_len, vec_capacity}
use Rattle.twkb_flat.proofs.room.put_reserved.Given as goal

abbrev pub invariant-loop-point : goal.invariant-loop-point
invariant-loop-point l = record {
  appended : l.points.items ≡ l.initial.points.items ++ take l.point-index l.more;
  room : vec_len l.points + length l.more ≤ vec_capacity l.points + l.point-index;
}
