-- All points so far are counted and in range.
use Rattle.std.proofs.Common.{◌≡◌, ◌+◌, drop}
use Rattle.twkb_arrays.specs.JudgedRow.{in_range_front}
use Rattle.twkb_arrays.proofs.judged_row.in_range_front.Given as goal

abbrev pub invariant-loop-point : goal.invariant-loop-point
invariant-loop-point l = (l.count ≡ l.point-index)
    × (in_range_front l.points ≡ l.count + in_range_front (drop l.point-index l.points))
