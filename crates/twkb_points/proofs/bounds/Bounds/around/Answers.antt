use Rattle.std.proofs.Common.{◌∙◌}
use Rattle.twkb_points.proofs.PointLemmas.{extent-one_more}
use Rattle.twkb_points.proofs.bounds.Bounds.around.Goals as goal

pub loop-point-preserved : goal.loop-point-preserved
loop-point-preserved c =
    extent-one_more c.in_ok-first.others.now c.loop-point.point-index c.point-item.result
    c.loop-point.bounds c.include.new.self
    c.loop-point-test.true c.point-item.is c.include.ensures.value
    ∙ c.loop-point.invariant
