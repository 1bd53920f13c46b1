-- The points so far are written at the start of the array.
use Rattle.std.proofs.Common.{◌≡◌, length, take}
use Rattle.twkb_buffer.specs.Polylines.{coordinates_of}
use Rattle.twkb_arrays.proofs.copied_form.put_points.Given as goal

abbrev pub invariant-loop-at : goal.invariant-loop-at
invariant-loop-at l = (length l.points ≡ length l.own) × (take l.at l.points ≡ coordinates_of (take l.at l.own))
