use Rattle.twkb_tree.specs.Size.{member_smaller}
use Rattle.std.proofs.Common.{rules, ◌≡◌, refl, arith}
use Rattle.twkb_tree.specs.Tree.{precision_of}
use Rattle.twkb_tree.proofs.TreeLemmas.{take_pair, lists_same, lists_apart, lists_of_two_lengths, same_trees}
use Rattle.twkb_tree.proofs.geometry.+same.Goals as goal

pub Geometry::same-returns-then-precision : goal.Geometry::same-returns-then-precision
Geometry::same-returns-then-precision t c =
    let same_precision : precision_of c.args.self.now ≡ precision_of c.args.other.now = search rules in
    same_trees c.args.self.now c.args.other.now c.shape.result.now c.shape-then-precision.result.now
    c.same.result same_precision c.shape.ensures c.shape-then-precision.ensures c.same.ensures

pub Members::same-loop-index-preserved : goal.Members::same-loop-index-preserved
Members::same-loop-index-preserved t c =
    take_pair _ _ c.loop-index.index c.index-members-index.result c.index-others-index.result
    c.loop-index-test.true (omega arith) c.index-members-index.is c.index-others-index.is
    (c.if-not-same.ensures.0 refl) c.loop-index.invariant

pub Members::same-returns-then-members-others : goal.Members::same-returns-then-members-others
Members::same-returns-then-members-others t c =
    lists_of_two_lengths c.as_slice-members.result.now c.as_slice-others.result.now _ _
    c.if-members-others.true c.as_slice-members.ensures.items c.as_slice-others.ensures.items

pub Members::same-returns-then-not-same : goal.Members::same-returns-then-not-same
Members::same-returns-then-not-same t c =
    lists_apart c.as_slice-members.result.now c.as_slice-others.result.now _ _ c.loop-index.index
    c.index-members-index.result c.index-others-index.result c.loop-index-test.true
    c.index-members-index.is c.index-others-index.is c.if-not-same.ensures.1
    c.as_slice-members.ensures.items c.as_slice-others.ensures.items

pub Members::same-returns : goal.Members::same-returns
Members::same-returns t c =
    lists_same c.as_slice-members.result.now c.as_slice-others.result.now _ _ c.loop-index.index
    c.loop-index.invariant c.if-members-others.false c.loop-index-test.false
    c.as_slice-members.ensures.items c.as_slice-others.ensures.items

pub Members::same-same-requires : goal.Members::same-same-requires
Members::same-same-requires t c = grind (arith, member_smaller)
