-- The coordinates so far, and those of the points left, are the coordinates of all points.
use Rattle.std.proofs.Common.{◌≡◌, ◌++◌, drop}
use Rattle.twkb_buffer.specs.Polylines.{coordinates_of}
use Rattle.twkb_buffer.proofs.polylines.coordinates.Given as goal

abbrev pub invariant-loop-point : goal.invariant-loop-point
invariant-loop-point l = l.coordinates.items ++ coordinates_of (drop l.point-index l.points) ≡ coordinates_of l.points
