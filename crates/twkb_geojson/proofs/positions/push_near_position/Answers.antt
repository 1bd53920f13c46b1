use Rattle.std.proofs.Common.{rules, FitsSigned, w64, ◌∙◌, ap, ◌++◌, pos, nat_abs, arith}
use Rattle.std.proofs.Common.{to_z-of_z as whole_again}
use Rattle.std.proofs.lemmas.Int.{to_z-of_z}
use Rattle.twkb_geojson.specs.Coordinate.{coordinate_text}
use Rattle.twkb_geojson.proofs.PrintLemmas.{position_put}
use Rattle.twkb_geojson.proofs.positions.push_near_position.Goals as goal

pub push_near-requires-clause-near : goal.push_near-requires-clause-near
push_near-requires-clause-near c =
    let fits : FitsSigned w64 c.x.result = search rules in
    let same = ap nat_abs (whole_again fits) ∙ ap nat_abs c.x.ensures.value in
    omega (arith, same, c.requires.near.x)

pub push_near-requires-2-clause-near : goal.push_near-requires-2-clause-near
push_near-requires-2-clause-near c =
    let fits : FitsSigned w64 c.y.result = search rules in
    let same = ap nat_abs (whole_again fits) ∙ ap nat_abs c.y.ensures.value in
    omega (arith, same, c.requires.near.y)

pub returns-clause-appended : goal.returns-clause-appended
returns-clause-appended c =
    let fits_x : FitsSigned w64 c.x.result = search rules in
    let fits_y : FitsSigned w64 c.y.result = search rules in
    let first = simp to_z-of_z at c.push_near.ensures.appended in
    let second = simp to_z-of_z at c.push_near-2.ensures.appended in
    position_put (pos c.args.places) c.args.point c.args.piece.now _ _ _ _ _ c.push.ensures
    (first ∙ ap (λ u. c.push.new.self ++ coordinate_text (pos c.args.places) u) c.x.ensures.value) c.push-2.ensures
    (second ∙ ap (λ u. c.push-2.new.self ++ coordinate_text (pos c.args.places) u) c.y.ensures.value) c.push-3.ensures
