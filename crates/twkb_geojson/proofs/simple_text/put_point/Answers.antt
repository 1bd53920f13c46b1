use Rattle.std.proofs.Common.{FitsSigned, w8}
use Rattle.std.proofs.lemmas.Int.{to_z-of_z}
use Rattle.twkb_geojson.proofs.ObjectLemmas.{point_put}
use Rattle.twkb_geojson.proofs.simple_text.put_point.Goals as goal

pub returns-clause-appended : goal.returns-clause-appended
returns-clause-appended c =
    let fits : FitsSigned w8 c.args.precision = c.ranges.precision in
    let put = simp to_z-of_z at c.push_position.ensures.appended in
    point_put c.args.precision c.args.place _ _ _ _ _ _ c.in_ok-put_start.ensures.appended c.new-piece.ensures put
    c.push.ensures c.in_ok-flush.ensures.appended
