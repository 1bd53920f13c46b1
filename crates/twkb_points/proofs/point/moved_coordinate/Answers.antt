use Rattle.std.proofs.lemmas.Bool.{false≢true}
use Rattle.std.proofs.lemmas.Int.{to_z-of_z}
use Rattle.twkb_points.proofs.PointLemmas.{coordinate_fits}
use Rattle.twkb_points.proofs.point.moved_coordinate.Goals as goal

pub returns-in_err-to : goal.returns-in_err-to
returns-in_err-to c =
    let out = simp (to_z-of_z, c.ranges.from, c.ranges.by) at c.in_err-to.ensures in
    rw c.from_residual.ensures
    (record {
      range = (
        λ other. absurd (false≢true other),
        λ inside.
            absurd (out (coordinate_fits _ inside)),
      );
      in_range = tt;
      sum = tt;
    })
