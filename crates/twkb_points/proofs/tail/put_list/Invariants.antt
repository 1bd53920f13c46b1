-- The points so far are appended, and there is room for the others.
use Rattle.std.proofs.Common.{◌≡◌, ◌+◌, ◌≤◌, ◌++◌, length, take, vec_len, vec_capacity}
use Rattle.twkb_points.proofs.tail.put_list.Given as goal

abbrev pub invariant-loop-at : goal.invariant-loop-at
invariant-loop-at g l = record {
  end : l.at-end ≡ length (g.S.PointList.points l.list);
  appended : l.points.items ≡ l.fn.points.items ++ take l.at (g.S.PointList.points l.list);
  room : vec_len l.points + length (g.S.PointList.points l.list) ≤ vec_capacity l.points + l.at;
}
