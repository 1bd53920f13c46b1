use Rattle.std.proofs.Common.{arith, rules, refl, FitsSigned, w64}
use Rattle.std.proofs.lemmas.Bool.{false≢true}
use Rattle.std.proofs.lemmas.Int.{to_z-of_z}
use Rattle.std.proofs.lemmas.Result.{err_from_is_err_and}
use Rattle.twkb_polyline.specs.declared.fault.PolyReason.TheVariants.{Range}
use Rattle.twkb_polyline.specs.declared.fault.PolyFault.TheVariants.{At}
use Rattle.twkb_polyline.proofs.TextLemmas.{point_read, refused_after, latitude_number, latitude_range}
use Rattle.twkb_polyline.proofs.TextLemmas.{longitude_number, longitude_range, no_longitude}
use Rattle.twkb_polyline.proofs.decoded_points.point_at.Goals as goal

pub returns-in_err-dy : goal.returns-in_err-dy
returns-in_err-dy c =
    let p = err_from_is_err_and c.from_residual.result c.from_residual.ensures.1 in
    rw (p.1, p.2) record {
      read = tt;
      in_range = tt;
      moved = tt;
      refused = latitude_number c.args.text.now c.args.start c.args.cursor.now c.in_err-dy.field-0.0
          c.in_err-dy.ensures.refused;
    }

pub returns-then-not-y_in_range-clause-refused : goal.returns-then-not-y_in_range-clause-refused
returns-then-not-y_in_range-clause-refused c =
    let fits : FitsSigned w64 c.in_ok-dy.dy = search rules in
    let known = simp to_z-of_z at c.if-not-y_in_range.ensures in
    rw c.at.ensures (latitude_range c.args.cursor.now c.in_ok-dy.dy c.in_ok-dy.ensures.read
    (λ inside. false≢true (known.1 inside)))

pub returns-then-middle-text-clause-refused : goal.returns-then-middle-text-clause-refused
returns-then-middle-text-clause-refused c =
    let fits : FitsSigned w64 c.in_ok-dy.dy = search rules in
    let known = simp to_z-of_z at c.if-not-y_in_range.ensures in
    rw c.at-then-middle-text.ensures (no_longitude c.args.cursor.now c.in_ok-dy.ensures.read (known.0 refl)
    c.if-middle-text.true)

pub returns-in_err-dx : goal.returns-in_err-dx
returns-in_err-dx c =
    let p = err_from_is_err_and c.from_residual-in_err-dx.result c.from_residual-in_err-dx.ensures.1 in
    let fits : FitsSigned w64 c.in_ok-dy.dy = search rules in
    let known = simp to_z-of_z at c.if-not-y_in_range.ensures in
    let latitude = c.in_ok-dy.ensures.read in
    rw (p.1, p.2) record {
      read = tt;
      in_range = tt;
      moved = tt;
      refused = refused_after c.args.cursor.now c.in_err-dx.field-0.0 latitude (known.0 refl)
          (longitude_number c.args.text.now c.in_ok-dy.middle c.args.cursor.now.x c.in_err-dx.field-0.0
          (omega (arith, latitude.within, c.if-middle-text.false)) c.in_err-dx.ensures.refused);
    }

pub returns-in-Some-clause-read : goal.returns-in-Some-clause-read
returns-in-Some-clause-read c =
    let fits_x : FitsSigned w64 c.in_ok-dx.dx = search rules in
    let fits_y : FitsSigned w64 c.in_ok-dy.dy = search rules in
    let moved = simp to_z-of_z at c.in-Some.ensures.point in
    point_read c.in_ok-dy.ensures.read c.in_ok-dx.ensures.read moved

pub returns-in-None-clause-refused : goal.returns-in-None-clause-refused
returns-in-None-clause-refused c =
    let fits_x : FitsSigned w64 c.in_ok-dx.dx = search rules in
    let fits_y : FitsSigned w64 c.in_ok-dy.dy = search rules in
    let known = simp to_z-of_z at c.if-not-y_in_range.ensures in
    let range = simp to_z-of_z at c.in-None.ensures.range in
    let latitude = c.in_ok-dy.ensures.read in
    rw c.at-in-None.ensures (refused_after c.args.cursor.now (At c.in_ok-dy.middle Range) latitude (known.0 refl)
    (longitude_range c.args.cursor.now.x c.in_ok-dx.dx (omega (arith, latitude.within, c.if-middle-text.false))
    c.in_ok-dx.ensures.read (λ inside. false≢true (range.1 (inside, known.0 refl)))))
