use Rattle.std.proofs.lemmas.Grind.{common_steps}
use Rattle.std.proofs.Common.{arith}
use Rattle.twkb_tree.specs.Size.{member_smaller}
use Rattle.twkb_tree.proofs.TreeLemmas.{precision_step}
use Rattle.twkb_tree.proofs.geometry.+uniform.Goals as goal

pub Members::have_precision-loop-member-preserved : goal.Members::have_precision-loop-member-preserved
Members::have_precision-loop-member-preserved t c =
    precision_step _ _ _ c.member-item.result _ c.loop-member-test.true c.member-item.is
    c.if-not-has_precision.ensures c.loop-member.invariant

pub Members::have_precision-has_precision-requires : goal.Members::have_precision-has_precision-requires
Members::have_precision-has_precision-requires t c = grind (arith, member_smaller)

pub Members::have_precision-returns-then-not-has_precision : goal.Members::have_precision-returns-then-not-has_precision
Members::have_precision-returns-then-not-has_precision t c = grind (arith, common_steps)

pub Members::have_precision-returns : goal.Members::have_precision-returns
Members::have_precision-returns t c = grind (arith, common_steps)
