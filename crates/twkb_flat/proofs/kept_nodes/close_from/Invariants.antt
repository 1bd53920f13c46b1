-- The open rows below the one at the place are closed.
use Rattle.twkb_flat.proofs.LinkLemmas.{Closing}
use Rattle.twkb_flat.proofs.kept_nodes.close_from.Given as goal

abbrev pub invariant-loop-kept : goal.invariant-loop-kept
invariant-loop-kept l = Closing l.initial.kept l.kept l.depth l.at l.next

abbrev pub decreases-loop-kept : goal.decreases-loop-kept
decreases-loop-kept l = l.at
