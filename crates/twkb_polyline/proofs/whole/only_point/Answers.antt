use Rattle.std.proofs.Common.{◌∙◌, ap, rules, FitsSigned, w64}
use Rattle.std.proofs.lemmas.Int.{to_z-of_z}
use Rattle.twkb_points.specs.Point.{Point, origin, moved_by}
use Rattle.twkb_polyline.proofs.TextLemmas.{point_of_text}
use Rattle.twkb_polyline.proofs.whole.only_point.Goals as goal

pub returns-clause-read : goal.returns-clause-read
returns-clause-read c =
    let x_fits : FitsSigned w64 c.in_ok-dy.dx = search rules in
    let y_fits : FitsSigned w64 c.in_ok-dy.dy = search rules in
    let moved = simp to_z-of_z at c.in_ok-point.ensures.point in
    let from = moved ∙ ap (λ (p : Point). moved_by p c.in_ok-dy.dx c.in_ok-dy.dy) c.origin.ensures in
    point_of_text c.args.text.now c.in_ok-dy.dx c.in_ok-dy.dy origin c.in_ok-point.point c.in_ok-dy.ensures.spelled from
