use Rattle.std.proofs.Common.{FitsSigned, w8}
use Rattle.std.proofs.lemmas.Int.{to_z-of_z}
use Rattle.twkb_geojson.specs.Value.{position}
use Rattle.twkb_geojson.proofs.PrintLemmas.{commas_all}
use Rattle.twkb_geojson.proofs.positions.put_others.Goals as goal

pub returns-clause-appended : goal.returns-clause-appended
returns-clause-appended c =
    let fits : FitsSigned w8 c.args.precision = c.ranges.precision in
    let so_far = simp to_z-of_z at c.loop-point.invariant.put in
    commas_all (position c.args.precision) c.args.points.now c.loop-point.point-index _ _ c.loop-point-test.false so_far
