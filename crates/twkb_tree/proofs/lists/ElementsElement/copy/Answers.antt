use Rattle.std.proofs.Common.{◌∙◌, arith}
use Rattle.twkb_tree.proofs.TreeLemmas.{copied_more, copied_all}
use Rattle.twkb_tree.proofs.lists.ElementsElement.copy.Goals as goal

pub loop-item-init : goal.loop-item-init
loop-item-init g c = (
  c.in_ok-items.ensures.items,
  c.in_ok-items.ensures.len,
  omega (arith, c.in_ok-items.ensures.capacity),
)

pub push_reserved-requires : goal.push_reserved-requires
push_reserved-requires g c = omega (arith, c.loop-item.invariant.1, c.loop-item.invariant.2, c.loop-item-test.true)

pub loop-item-preserved : goal.loop-item-preserved
loop-item-preserved g c = (
  copied_more _ _ _ _ c.item-item.result c.in_ok-copy.field-0 c.loop-item.invariant.0
      c.loop-item-test.true c.item-item.is c.in_ok-copy.ensures c.push_reserved.ensures.items,
  omega (arith, c.push_reserved.ensures.len, c.loop-item.invariant.1),
  omega (arith, c.push_reserved.ensures.capacity, c.loop-item.invariant.2),
)

pub invariant_of-result : goal.invariant_of-result
invariant_of-result g c = rw (copied_all _ _ _ c.loop-item.invariant.0 c.loop-item-test.false
    ∙ c.as_slice-own.ensures.items) c.as_slice-own.ensures.fit

pub returns : goal.returns
returns g c =
    copied_all _ _ _ c.loop-item.invariant.0 c.loop-item-test.false ∙ c.as_slice-own.ensures.items
