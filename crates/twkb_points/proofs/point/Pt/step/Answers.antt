use Rattle.std.proofs.Common.{◌∙◌, subst, sym, ap}
use Rattle.std.specs.Prelude.{◌+ℤ◌}
use Rattle.std.proofs.lemmas.Int.{to_z-of_z}
use Rattle.twkb_points.specs.Point.{Point, IsCoordinate, moved_by}
use Rattle.twkb_points.proofs.PointLemmas.{coordinate_fits}
use Rattle.twkb_points.proofs.point.Pt.step.Goals as goal

pub returns : goal.returns
returns c =
    let at_x : IsCoordinate (c.self.inside.x +ℤ c.args.dx) =
    subst (λ (p : Point). IsCoordinate (p.x +ℤ c.args.dx)) (sym c.self.view_is)
    c.requires.x_in_range in
    let at_y : IsCoordinate (c.self.inside.y +ℤ c.args.dy) =
    subst (λ (p : Point). IsCoordinate (p.y +ℤ c.args.dy)) (sym c.self.view_is)
    c.requires.y_in_range in
    let at = simp (
      to_z-of_z,
      coordinate_fits c.self.inside.x c.self.invariant.0,
      coordinate_fits c.self.inside.y c.self.invariant.1,
      c.ranges.dx,
      c.ranges.dy,
      coordinate_fits _ at_x,
      coordinate_fits _ at_y,
    ) at c.at.ensures in
    at ∙ ap (λ (p : Point). moved_by p c.args.dx c.args.dy) c.self.view_is
