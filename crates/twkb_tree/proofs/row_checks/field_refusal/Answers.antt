use Rattle.std.proofs.Common.{◌∙◌, Some, refl, rules, sym}
use Rattle.twkb_tree.specs.declared.row_checks.Refusal.TheVariants.{BadPrecision}
use Rattle.twkb_tree.specs.Open.{row_there}
use Rattle.twkb_tree.proofs.OpenLaws.{in_fields}
use Rattle.twkb_tree.proofs.row_checks.field_refusal.Goals as goal

pub returns-in-Some-id_refusal : goal.returns-in-Some-id_refusal
returns-in-Some-id_refusal c own =
    let s = c.args.row_place.now in
    let r = row_there s c.args.kind c.args.id c.args.precision own in
    in_fields c.args.limits.now s r _ _ _ c.in_default.ensures
    (c.in-Some-id_refusal.ensures r refl (sym c.is_some.ensures) (search rules)) refl

pub returns-then-not-is_right_precision : goal.returns-then-not-is_right_precision
returns-then-not-is_right_precision c own =
    let s = c.args.row_place.now in
    let r = row_there s c.args.kind c.args.id c.args.precision own in
    in_fields c.args.limits.now s r _ _ (Some BadPrecision) c.in_default.ensures
    (c.in_default-id_refusal.ensures r refl (sym c.is_some.ensures) (search rules))
    (rw (sym c.is_right_precision.ensures ∙ c.if-not-is_right_precision.true) refl)

pub returns : goal.returns
returns c own =
    let s = c.args.row_place.now in
    let r = row_there s c.args.kind c.args.id c.args.precision own in
    in_fields c.args.limits.now s r _ _ _ c.in_default.ensures
    (c.in_default-id_refusal.ensures r refl (sym c.is_some.ensures) (search rules))
    (c.precision_refusal.ensures r (sym c.is_some-2.ensures)
    (sym c.is_right_precision.ensures ∙ c.if-not-is_right_precision.false))
