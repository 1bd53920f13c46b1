-- The reader holds the characters from `start` on, which all go on.
use Rattle.twkb_polyline.proofs.NumberLemmas.{AreHeld}
use Rattle.twkb_polyline.proofs.decoded_points.number_at.Given as goal

abbrev pub invariant-loop-at : goal.invariant-loop-at
invariant-loop-at l = AreHeld l.text l.start l.at l.partial
