-- The points so far were appended to the others, the cursor is at the last of them, and the ends
-- are those of the text left.
use Rattle.std.proofs.Common.{length, drop, ◌-◌, ◌≤◌}
use Rattle.twkb_num.specs.Block.{AreEnds}
use Rattle.twkb_polyline.specs.Reading.{HasPutOn}
use Rattle.twkb_polyline.proofs.decoded_points.read_eights.Given as goal

abbrev pub invariant-loop-left : goal.invariant-loop-left
invariant-loop-left g l =
    record {
      put : HasPutOn l.text l.start (l.room - l.left) l.fn.cursor (g.L.PointTail.held l.fn.points)
          (g.L.PointTail.held l.points) l.cursor l.at;
      fits : l.left ≤ l.room;
      within : l.at ≤ length l.text;
      ends : AreEnds 63 32 (drop l.at l.text) l.ends;
    }

abbrev pub decreases-loop-left : goal.decreases-loop-left
decreases-loop-left g l = l.left
