use Rattle.std.proofs.Common.{refl, arith}
use Rattle.twkb_tree.proofs.TreeLemmas.{take_pair, lists_same, lists_apart, lists_of_two_lengths}
use Rattle.twkb_tree.proofs.lists.ElementsElement.same.Goals as goal

pub loop-index-preserved : goal.loop-index-preserved
loop-index-preserved g c =
    take_pair _ _ c.loop-index.index c.index-items-index.result c.index-others-index.result
    c.loop-index-test.true (omega arith) c.index-items-index.is c.index-others-index.is
    (c.if-not-same.ensures.0 refl) c.loop-index.invariant

pub returns-then-items-others : goal.returns-then-items-others
returns-then-items-others g c =
    lists_of_two_lengths c.as_slice-items.result.now c.as_slice-others.result.now _ _
    c.if-items-others.true c.as_slice-items.ensures.items c.as_slice-others.ensures.items

pub returns-then-not-same : goal.returns-then-not-same
returns-then-not-same g c =
    lists_apart c.as_slice-items.result.now c.as_slice-others.result.now _ _ c.loop-index.index
    c.index-items-index.result c.index-others-index.result c.loop-index-test.true
    c.index-items-index.is c.index-others-index.is c.if-not-same.ensures.1
    c.as_slice-items.ensures.items c.as_slice-others.ensures.items

pub returns : goal.returns
returns g c =
    lists_same c.as_slice-items.result.now c.as_slice-others.result.now _ _ c.loop-index.index
    c.loop-index.invariant c.if-items-others.false c.loop-index-test.false
    c.as_slice-items.ensures.items c.as_slice-others.ensures.items
