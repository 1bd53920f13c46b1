use Rattle.std.proofs.Common.{◌+◌, ◌-◌, ◌*◌, ◌%◌, ◌^◌, arith, refl}
use Rattle.twkb_buffer.proofs.ModerateLemmas.{few_units, moderate_finite, moderate_nearest}
use Rattle.twkb_buffer.proofs.moderate_sizes.moderate_size.Goals as goal

pub returns-clause-finite : goal.returns-clause-finite
returns-clause-finite c =
    let by = c.args.multiplier in
    let field = c.exponent_field.result in
    λ _. moderate_finite by c.args.number field ((by.greatest + (2 ^ 64 - field)) % 2 ^ 64) c.requires
    c.exponent_field.ensures refl c.if-places-gt-MOST_PLACES.false

pub returns-clause-few : goal.returns-clause-few
returns-clause-few c =
    let by = c.args.multiplier in
    few_units (2 * (c.args.number % 2 ^ 52) + (2 ^ 53 + 1)) by.multiple
    ((by.greatest + (2 ^ 64 - c.exponent_field.result)) % 2 ^ 64) (omega arith) (omega arith)

pub returns-clause-nearest : goal.returns-clause-nearest
returns-clause-nearest c =
    let by = c.args.multiplier in
    let field = c.exponent_field.result in
    moderate_nearest by c.args.number field ((by.greatest + (2 ^ 64 - field)) % 2 ^ 64) c.requires
    c.exponent_field.ensures refl c.if-places-gt-MOST_PLACES.false
