use Rattle.std.proofs.lemmas.Grind.{common_steps}
use Rattle.std.proofs.Common.{rules, subst, arith}
use Rattle.std.proofs.lemmas.List.{take_more}
use Rattle.twkb_tree.proofs.TreeLemmas.{all_push}
use Rattle.twkb_tree.proofs.lists.Elements.from_vec.Goals as goal

pub loop-item-preserved : goal.loop-item-preserved
loop-item-preserved g c =
    rw (take_more _ _ c.item-item.result c.loop-item-test.true)
    (all_push g.T.Element.Fits _ _ c.loop-item.invariant
    (subst g.T.Element.Fits c.item-item.is c.look-learnt.ensures))

pub returns : goal.returns
returns g c = search rules

pub invariant_of-result : goal.invariant_of-result
invariant_of-result g c = grind (arith, common_steps)
