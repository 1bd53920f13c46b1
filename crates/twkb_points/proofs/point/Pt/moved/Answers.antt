use Rattle.std.proofs.lemmas.Bool.{false≢true}
use Rattle.std.proofs.lemmas.Int.{to_z-of_z}
use Rattle.twkb_points.proofs.PointLemmas.{coordinate_fits}
use Rattle.twkb_points.proofs.point.Pt.moved.Goals as goal

pub returns-in_err-x : goal.returns-in_err-x
returns-in_err-x c =
    let out = simp (to_z-of_z, coordinate_fits c.self.inside.x c.self.invariant.0, c.ranges.dx) at
    c.in_err-x.ensures.range in
    rw (← c.self.view_is, c.from_residual.ensures)
    (record {
      range = (λ other. absurd (false≢true other), λ inside. out.1 inside.0);
      value = tt;
    })

pub returns-in_err-y : goal.returns-in_err-y
returns-in_err-y c =
    let out = simp (to_z-of_z, coordinate_fits c.self.inside.y c.self.invariant.1, c.ranges.dy) at
    c.in_err-y.ensures.range in
    rw (← c.self.view_is, c.from_residual-in_err-y.ensures)
    (record {
      range = (λ other. absurd (false≢true other), λ inside. out.1 inside.1);
      value = tt;
    })
