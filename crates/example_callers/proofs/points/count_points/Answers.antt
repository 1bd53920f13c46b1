use Rattle.std.proofs.Common.{rules}
use Rattle.twkb_io.specs.Taps.{device_of}
use Rattle.twkb_tree.specs.Limits.{standard_limits}
use Rattle.example_callers.proofs.PointsLemmas.{gave_more}
use Rattle.example_callers.proofs.points.count_points.Goals as goal

pub loop-geometry-preserved : goal.loop-geometry-preserved
loop-geometry-preserved g c =
    let next = c.in_ok-geometry.ensures in
    gave_more standard_limits (g.R.Read.remaining (device_of c.args.device.now))
    c.loop-geometry.blobs c.next.new.self c.loop-geometry.count _ _ _ c.in-Some.geometry
    c.loop-geometry.invariant
    (next.next c.loop-geometry.invariant.live c.loop-geometry.invariant.going_on) c.in-Some.is
    c.points_of.ensures (search rules) next.shared.limits next.shared.stays
    (next.shared.going_on (λ none. absurd (cc (none, c.in-Some.is))))
