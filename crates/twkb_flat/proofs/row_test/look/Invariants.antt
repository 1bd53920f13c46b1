use Rattle.std.proofs.Common.{take}
use Rattle.twkb_points.specs.Point.{AreInRange}
use Rattle.twkb_flat.proofs.row_test.look.Given as goal

abbrev pub invariant-loop-point : goal.invariant-loop-point
invariant-loop-point l = AreInRange (take l.point-index l.points)
