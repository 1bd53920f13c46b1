use Rattle.std.proofs.lemmas.Grind.{common_steps}
use Rattle.std.proofs.Common.{refl, arith}
use Rattle.std.specs.Prelude.{flat_map}
use Rattle.twkb_tree.proofs.InRange.{extent_step}
use Rattle.twkb_tree.proofs.with_points.joined_bounds.Goals as goal

pub loop-item-preserved : goal.loop-item-preserved
loop-item-preserved g c = extent_step (flat_map g.T.WithPoints.points_of) g.T.WithPoints.points_of
    (λ _ _. refl) _ _ c.item-item.result _ _ c.loop-item-test.true c.item-item.is
    (rw c.bounds.ensures at c.merged-bounds.ensures) c.loop-item.invariant

pub returns : goal.returns
returns g c = grind (arith, common_steps)
