use Rattle.std.proofs.Common.{◌∙◌, rules, FitsSigned, w64}
use Rattle.std.proofs.lemmas.Int.{to_z-of_z}
use Rattle.twkb_polyline.proofs.TextLemmas.{point_read}
use Rattle.twkb_polyline.proofs.whole.whole_point.Goals as goal

pub returns-in_err-dy : goal.returns-in_err-dy
returns-in_err-dy c = rw c.from_residual.ensures
    (record { read = tt; in_range = tt; moved = tt; unmoved = c.in_default.ensures.unmoved })

pub returns-in_err-dx : goal.returns-in_err-dx
returns-in_err-dx c = rw c.from_residual-in_err-dx.ensures
    (record { read = tt; in_range = tt; moved = tt; unmoved = c.in_default.ensures.unmoved })

pub returns-in_err-point : goal.returns-in_err-point
returns-in_err-point c = rw c.from_residual-in_err-point.ensures
    (record {
      read = tt;
      in_range = tt;
      moved = tt;
      unmoved = c.in_err-point.ensures.unmoved ∙ c.in_default.ensures.unmoved;
    })

pub returns-clause-read : goal.returns-clause-read
returns-clause-read c =
    let fits_x : FitsSigned w64 c.in_ok-dx.dx = search rules in
    let fits_y : FitsSigned w64 c.in_ok-dy.dy = search rules in
    let from_there = simp to_z-of_z at c.in_ok-point.ensures.point in
    let moved = rw c.in_default.ensures.unmoved at from_there in
    point_read c.in_ok-dy.ensures c.in_ok-dx.ensures moved
