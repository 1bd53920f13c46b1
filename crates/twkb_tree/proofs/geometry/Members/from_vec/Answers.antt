use Rattle.std.proofs.lemmas.Grind.{common_steps}
use Rattle.std.proofs.Common.{subst, arith}
use Rattle.std.proofs.lemmas.List.{take_more}
use Rattle.twkb_tree.specs.Tree.{IsTree}
use Rattle.twkb_tree.specs.Limits.{IsTreeInRange}
use Rattle.twkb_tree.proofs.TreeLemmas.{AreTrees-push, AreTreesInRange-push}
use Rattle.twkb_tree.proofs.geometry.Members.from_vec.Goals as goal

pub loop-member-preserved : goal.loop-member-preserved
loop-member-preserved c =
    rw (take_more _ _ c.member-item.result c.loop-member-test.true) (
      AreTrees-push _ _ c.loop-member.invariant.0 (subst IsTree c.member-item.is c.precision-learnt.ensures.sound),
      AreTreesInRange-push _ _ c.loop-member.invariant.1
          (subst IsTreeInRange c.member-item.is c.precision-learnt.ensures.in_range),
    )

pub invariant_of-result : goal.invariant_of-result
invariant_of-result c = grind (arith, common_steps)
