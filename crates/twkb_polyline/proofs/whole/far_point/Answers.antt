use Rattle.std.proofs.Common.{refl, rules, FitsSigned, w64}
use Rattle.std.proofs.lemmas.Int.{to_z-of_z}
use Rattle.std.proofs.lemmas.List.{take_rest}
use Rattle.twkb_polyline.proofs.TextLemmas.{point_in_text, near}
use Rattle.twkb_polyline.proofs.whole.far_point.Goals as goal

pub add_near-requires-clause-near_x : goal.add_near-requires-clause-near_x
add_near-requires-clause-near_x c =
    let fits : FitsSigned w64 c.in_ok-dy.dx = search rules in
    simp to_z-of_z (near c.in_ok-dy.dx c.in_ok-dy.ensures.small.1)

pub add_near-requires-clause-near_y : goal.add_near-requires-clause-near_y
add_near-requires-clause-near_y c =
    let fits : FitsSigned w64 c.in_ok-dy.dy = search rules in
    simp to_z-of_z (near c.in_ok-dy.dy c.in_ok-dy.ensures.small.0)

pub returns-clause-read : goal.returns-clause-read
returns-clause-read c =
    let text = c.args.text.now in
    let x_fits : FitsSigned w64 c.in_ok-dy.dx = search rules in
    let y_fits : FitsSigned w64 c.in_ok-dy.dy = search rules in
    let to_point = simp to_z-of_z at c.in_ok-point.ensures.point in
    let within = rw (take_rest text c.args.start) at c.in_ok-dy.ensures.within in
    let spelled = rw (take_rest text c.args.start) at c.in_ok-dy.ensures.spelled in
    point_in_text text c.args.start c.in_ok-dy.count _ c.in_ok-dy.dx c.in_ok-dy.dy c.args.cursor.now
    c.in_ok-point.point refl c.requires within spelled to_point
