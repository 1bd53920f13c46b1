use Rattle.std.proofs.Common.{arith, ◌∙◌, ap, nat_abs}
use Rattle.std.proofs.Common.{to_z-of_z}
use Rattle.twkb_geojson.proofs.SizeLemmas.{tens_put, tens_zero_put, few_places, low_put_length}
use Rattle.twkb_geojson.proofs.coordinate.push_tens.Goals as goal

pub returns-then-size-ne0-clause-appended : goal.returns-then-size-ne0-clause-appended
returns-then-size-ne0-clause-appended c =
    let places = c.from.ensures ∙ c.unsigned_abs.ensures.value
    ∙ ap nat_abs (to_z-of_z c.ranges.precision) in
    tens_put c.args.precision c.args.size c.from.result _ _ _ c.requires.known c.requires.negative (omega arith)
    c.ranges.size.fits places c.push_long.ensures.appended c.push_low.ensures

pub returns-then-size-ne0-clause-most : goal.returns-then-size-ne0-clause-most
returns-then-size-ne0-clause-most c =
    let places = c.from.ensures ∙ c.unsigned_abs.ensures.value
    ∙ ap nat_abs (to_z-of_z c.ranges.precision) in
    omega (
      arith,
      places,
      few_places c.args.precision c.requires.known,
      c.push_long.ensures.most,
      low_put_length _ _ _ _ c.push_low.ensures,
    )

pub returns-else-size-ne0-clause-appended : goal.returns-else-size-ne0-clause-appended
returns-else-size-ne0-clause-appended c =
    tens_zero_put c.args.precision c.args.size _ _ c.requires.negative (omega arith) c.push_long.ensures.appended
