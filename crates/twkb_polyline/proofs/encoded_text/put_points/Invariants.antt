-- The points so far were appended to the text, and the cursor is at the last of them.
use Rattle.std.proofs.Common.{drop}
use Rattle.twkb_points.specs.Point.{origin}
use Rattle.twkb_polyline.proofs.TextLemmas.{HasPut}
use Rattle.twkb_polyline.proofs.encoded_text.put_points.Given as goal

abbrev pub invariant-loop-point : goal.invariant-loop-point
invariant-loop-point l = HasPut origin l.points (drop l.point-index l.rest) l.cursor l.fn.text.items l.text.items
