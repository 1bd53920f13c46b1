use Rattle.twkb_tree.specs.Size.{member_smaller}
use Rattle.std.proofs.lemmas.Grind.{common_steps}
use Rattle.std.proofs.Common.{rules, List, refl, arith}
use Rattle.twkb_tree.specs.Tree.{Tree, flat, flat_all, trees}
use Rattle.twkb_tree.proofs.InRange.{extent_step}
use Rattle.twkb_tree.proofs.geometry.+bounds.Goals as goal

pub Members::bounds-loop-member-preserved : goal.Members::bounds-loop-member-preserved
Members::bounds-loop-member-preserved t c = extent_step (λ (xs : List Tree). flat_all (trees xs))
    (flat) (λ _ _. refl) _ _ c.member-item.result _ _ c.loop-member-test.true c.member-item.is
    (rw c.bounds.ensures at c.merged-bounds.ensures) c.loop-member.invariant

pub Members::bounds-loop-member-init : goal.Members::bounds-loop-member-init
Members::bounds-loop-member-init t c = search rules

pub Members::bounds-bounds-requires : goal.Members::bounds-bounds-requires
Members::bounds-bounds-requires t c = grind (arith, member_smaller)

pub Members::bounds-returns : goal.Members::bounds-returns
Members::bounds-returns t c = grind (arith, common_steps)
