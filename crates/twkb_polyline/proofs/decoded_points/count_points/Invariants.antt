-- As many points were read as were counted, and the cursor is at the last of them.
use Rattle.std.proofs.Common.{length, ◌+◌, ◌-◌}
use Rattle.twkb_polyline.proofs.TextLemmas.{IsCounted}
use Rattle.twkb_polyline.proofs.decoded_points.count_points.Given as goal

abbrev pub invariant-loop-at : goal.invariant-loop-at
invariant-loop-at l = IsCounted l.text l.max l.cursor l.at l.count

-- a search for blocks reads nothing if there are none, and is not repeated before `next_look`
abbrev pub decreases-loop-at : goal.decreases-loop-at
decreases-loop-at l = length l.text - l.at + (length l.text - l.next_look)
