use Rattle.std.proofs.Common.{◌≡◌, ◌∙◌, refl, sym, subst}
use Rattle.std.specs.Prelude.{MatchOption}
use Rattle.twkb_flat.specs.Rows.{row_with}
use Rattle.twkb_tree.specs.Refusal.{are_in_range}
use Rattle.twkb_tree.proofs.OpenLaws.{in_row}
use Rattle.twkb_arrays.specs.JudgedRow.{IsReasonOf, range_refusal}
use Rattle.twkb_arrays.specs.Rows.{points_of}
use Rattle.twkb_arrays.proofs.judged_row.refused_row.Goals as goal

pub returns-in-Some : goal.returns-in-Some
returns-in-Some c =
    let own = points_of c.args.own.now in
    let r = row_with c.args.row.now own in (
      c.in-Some.refusal,
      sym (in_row (are_in_range own) c.args.limits.now c.args.row_place.now r _ _
          (c.in-Some.ensures own) refl),
      c.reason_of.ensures,
    )

pub returns : goal.returns
returns c =
    let own = points_of c.args.own.now in
    let r = row_with c.args.row.now own in
    subst (λ failed. MatchOption c.refused_points.result (failed ≡ range_refusal own)
    (IsReasonOf failed))
    (in_row (are_in_range own) c.args.limits.now c.args.row_place.now r _ _ (sym c.in_default.is
    ∙ c.field_refusal.ensures own) refl) c.refused_points.ensures
