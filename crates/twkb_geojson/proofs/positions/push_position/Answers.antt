use Rattle.std.proofs.Common.{rules, FitsSigned, w64, w8, ◌∙◌, ap, ◌++◌}
use Rattle.std.proofs.lemmas.Int.{to_z-of_z}
use Rattle.twkb_geojson.specs.Coordinate.{coordinate_text}
use Rattle.twkb_geojson.proofs.PrintLemmas.{position_put}
use Rattle.twkb_geojson.proofs.positions.push_position.Goals as goal

pub returns-clause-appended : goal.returns-clause-appended
returns-clause-appended c =
    let fits : FitsSigned w8 c.args.precision = c.ranges.precision in
    let fits_x : FitsSigned w64 c.x.result = search rules in
    let fits_y : FitsSigned w64 c.y.result = search rules in
    let first = simp to_z-of_z at c.push_coordinate.ensures.appended in
    let second = simp to_z-of_z at c.push_coordinate-2.ensures.appended in
    position_put c.args.precision c.args.point c.args.piece.now _ _ _ _ _ c.push.ensures
    (first ∙ ap (λ u. c.push.new.self ++ coordinate_text c.args.precision u) c.x.ensures.value) c.push-2.ensures
    (second ∙ ap (λ u. c.push-2.new.self ++ coordinate_text c.args.precision u) c.y.ensures.value) c.push-3.ensures
