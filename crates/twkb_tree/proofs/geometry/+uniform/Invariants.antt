use Rattle.std.proofs.Common.{◌≡◌, drop}
use Rattle.twkb_tree.specs.Tree.{trees}
use Rattle.twkb_tree.specs.Limits.{have_precision}
use Rattle.twkb_tree.proofs.geometry.+uniform.Given as goal

abbrev pub invariant-Members::have_precision-loop-member :
    goal.invariant-Members::have_precision-loop-member
invariant-Members::have_precision-loop-member l =
    have_precision l.precision (trees (drop l.member-index l.member-items)) ≡ have_precision
    l.precision (trees l.member-items)
