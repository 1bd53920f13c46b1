use Rattle.std.proofs.Common.{refl}
use Rattle.std.proofs.lemmas.Int.{to_z-of_z}
use Rattle.twkb_points.proofs.cursor.Cursor.add_near.Goals as goal

pub returns-in_err-to : goal.returns-in_err-to
returns-in_err-to c =
    let out = simp (to_z-of_z, c.ranges.dx, c.ranges.dy) at c.in_err-to.ensures.range in
    rw (← c.self.view_is, c.from_residual.ensures) (record { range = out; point = tt; moved = tt; unmoved = refl })
