use Rattle.std.proofs.Common.{◌∙◌, arith}
use Rattle.twkb_tree.specs.Size.{member_smaller}
use Rattle.twkb_tree.proofs.TreeLemmas.{copied_more, copied_all}
use Rattle.twkb_tree.proofs.geometry.+copy.Goals as goal

pub Members::copy-loop-member-init : goal.Members::copy-loop-member-init
Members::copy-loop-member-init t c = (
  c.in_ok-items.ensures.items,
  c.in_ok-items.ensures.len,
  omega (arith, c.in_ok-items.ensures.capacity),
)

pub Members::copy-push_reserved-requires : goal.Members::copy-push_reserved-requires
Members::copy-push_reserved-requires t c = omega
    (arith, c.loop-member.invariant.1, c.loop-member.invariant.2, c.loop-member-test.true)

pub Members::copy-loop-member-preserved : goal.Members::copy-loop-member-preserved
Members::copy-loop-member-preserved t c = (
  copied_more _ _ _ _ c.member-item.result c.in_ok-copy.field-0 c.loop-member.invariant.0
      c.loop-member-test.true c.member-item.is c.in_ok-copy.ensures c.push_reserved.ensures.items,
  omega (arith, c.push_reserved.ensures.len, c.loop-member.invariant.1),
  omega (arith, c.push_reserved.ensures.capacity, c.loop-member.invariant.2),
)

pub Members::copy-returns : goal.Members::copy-returns
Members::copy-returns t c =
    copied_all _ _ _ c.loop-member.invariant.0 c.loop-member-test.false ∙ c.as_slice-members.ensures.items

pub Members::copy-copy-requires : goal.Members::copy-copy-requires
Members::copy-copy-requires t c = grind (arith, member_smaller)

pub Members::copy-invariant_of-result : goal.Members::copy-invariant_of-result
Members::copy-invariant_of-result t c =
    rw (copied_all _ _ _ c.loop-member.invariant.0 c.loop-member-test.false
    ∙ c.as_slice-members.ensures.items) (
      c.as_slice-members.ensures.trees,
      c.as_slice-members.ensures.in_range,
    )
