-- The points so far were appended to the others, and the cursor is at the last of them.
use Rattle.std.proofs.Common.{length, ◌+◌, ◌-◌, ◌≡◌}
use Rattle.twkb_points.specs.Point.{origin}
use Rattle.twkb_polyline.specs.Reading.{HasPutOn}
use Rattle.twkb_polyline.proofs.decoded_points.read_points.Given as goal

abbrev pub invariant-loop-at : goal.invariant-loop-at
invariant-loop-at g l =
    record {
      read : HasPutOn l.text 0 l.max origin (g.L.PointTail.held l.fn.points) (g.L.PointTail.held l.points)
          l.cursor l.at;
      held : l.held ≡ length (g.L.PointTail.held l.fn.points);
    }

-- a search for blocks reads nothing if there are none, and is not repeated before `next_look`
abbrev pub decreases-loop-at : goal.decreases-loop-at
decreases-loop-at g l = length l.text - l.at + (length l.text - l.next_look)
