-- The points so far have the first coordinates, and are in range.
use Rattle.std.proofs.Common.{drop}
use Rattle.twkb_buffer.proofs.RunLemmas.{HasTaken}
use Rattle.twkb_buffer.proofs.polylines.points_at.Given as goal

abbrev pub invariant-loop-coordinates : goal.invariant-loop-coordinates
invariant-loop-coordinates l = HasTaken l.given (drop l.coordinates-index l.given) l.points.items
