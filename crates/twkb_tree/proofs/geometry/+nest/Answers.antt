use Rattle.std.proofs.lemmas.Grind.{common_steps}
use Rattle.std.proofs.Common.{rules, arith}
use Rattle.twkb_tree.specs.Size.{member_smaller}
use Rattle.twkb_tree.proofs.TreeLemmas.{levels_step}
use Rattle.twkb_tree.proofs.geometry.+nest.Goals as goal

pub Members::nest-loop-member-init : goal.Members::nest-loop-member-init
Members::nest-loop-member-init t c = search rules

pub Members::nest-loop-member-preserved : goal.Members::nest-loop-member-preserved
Members::nest-loop-member-preserved t c = (
  c.max-deepest.type_inv,
  levels_step _ _ c.member-item.result _ _ _ _ _ c.loop-member-test.true
      c.member-item.is c.nest.ensures c.saturating_add.ensures c.max-deepest.ensures
      c.loop-member.invariant.1,
)

pub Members::nest-nest-requires : goal.Members::nest-nest-requires
Members::nest-nest-requires t c = grind (arith, member_smaller)

pub Members::nest-returns : goal.Members::nest-returns
Members::nest-returns t c = grind (arith, common_steps)
