-- There is an open row at the place, at the depth or below it.
use Rattle.twkb_flat.proofs.LinkLemmas.{Rising}
use Rattle.twkb_flat.proofs.kept_nodes.open_at.Given as goal

abbrev pub invariant-loop-at : goal.invariant-loop-at
invariant-loop-at l = Rising l.kept l.depth l.at

abbrev pub decreases-loop-at : goal.decreases-loop-at
decreases-loop-at l = l.at
