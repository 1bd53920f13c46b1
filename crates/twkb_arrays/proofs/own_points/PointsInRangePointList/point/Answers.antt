use Rattle.std.proofs.Common.{pos}
use Rattle.std.proofs.lemmas.Int.{to_z-of_z}
use Rattle.twkb_points.proofs.PointLemmas.{coordinate_fits}
use Rattle.twkb_buffer.specs.declared.point.BufferPoint.{BufferPoint}
use Rattle.twkb_arrays.proofs.ArrayLemmas.{one_in_range}
use Rattle.twkb_arrays.proofs.own_points.PointsInRangePointList.point.Goals as goal

abbrev none : BufferPoint
none = record { x = pos 0; y = pos 0 }

pub at-requires-clause-x_in_range : goal.at-requires-clause-x_in_range
at-requires-clause-x_in_range c =
    let inside = one_in_range c.args.self.now.own.now c.args.at none c.requires c.args.self.now.in_range in
    rw (to_z-of_z _ _ (coordinate_fits _ inside.0)) inside.0

pub at-requires-clause-y_in_range : goal.at-requires-clause-y_in_range
at-requires-clause-y_in_range c =
    let inside = one_in_range c.args.self.now.own.now c.args.at none c.requires c.args.self.now.in_range in
    rw (to_z-of_z _ _ (coordinate_fits _ inside.1)) inside.1
