use Rattle.twkb_tree.proofs.TreeLemmas.{IsTree-tree_of, IsTreeInRange-tree_of}
use Rattle.std.proofs.Common.{rules}
use Rattle.twkb_tree.proofs.geometry.Geometry.try_new.Goals as goal

pub returns-then-precision-lt-LEAST_PRECISION : goal.returns-then-precision-lt-LEAST_PRECISION
returns-then-precision-lt-LEAST_PRECISION c = search rules

pub returns-then-not-has_fit_ids : goal.returns-then-not-has_fit_ids
returns-then-not-has_fit_ids c = search rules

pub returns : goal.returns
returns c = search rules

pub invariant_of-result : goal.invariant_of-result
invariant_of-result c = (
  IsTree-tree_of _ _ (search rules) (c.has_fit_ids.ensures.fit.0 c.if-not-has_fit_ids.false)
      c.has_fit_ids.ensures.trees,
  IsTreeInRange-tree_of _ _ c.has_fit_ids.ensures.in_range,
)
