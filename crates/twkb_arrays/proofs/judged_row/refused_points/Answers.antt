use Rattle.std.proofs.Common.{◌∙◌, ◌+◌, Some, ap, refl, sym, length}
use Rattle.std.specs.Prelude.{◌||◌, nat_le}
use Rattle.std.proofs.lemmas.List.{length-map}
use Rattle.twkb_flat.specs.Rows.{row_with}
use Rattle.twkb_tree.specs.declared.row_checks.Refusal.TheVariants.{CoordinateRange, PointsNotAllowed}
use Rattle.twkb_tree.specs.Admits.{has_points, is_geometry, points_fit}
use Rattle.twkb_tree.specs.Open.{row_of, points_checks}
use Rattle.twkb_tree.specs.Refusal.{are_in_range, first_failed, has_none}
use Rattle.twkb_arrays.specs.Rows.{point_of, points_of}
use Rattle.twkb_arrays.proofs.ArrayLemmas.{by_range, not_allowed, range_first}
use Rattle.twkb_arrays.proofs.judged_row.refused_points.Goals as goal

pub returns-in_default : goal.returns-in_default
returns-in_default c = by_range _ _ _ _ (sym c.in_default.is ∙ c.points_refusal.ensures
    (row_with c.args.row.now (points_of c.args.own.now)) refl (length-map c.args.own.now point_of))

pub returns-in-PointsNotAllowed : goal.returns-in-PointsNotAllowed
returns-in-PointsNotAllowed c =
    let r = row_with c.args.row.now (points_of c.args.own.now) in
    let s = c.args.row_place.now in (
      PointsNotAllowed,
      not_allowed (has_points r.kind || has_none r.points) (are_in_range r.points)
          (nat_le (s.points + length r.points) c.args.limits.now.points)
          (points_fit r.kind (is_geometry (row_of s.parent)) r.points)
          (ap (λ why. Some why) (sym c.in-PointsNotAllowed.is)
          ∙ c.in-Some.ensures r refl (length-map c.args.own.now point_of)),
      refl,
    )

pub returns-then-are_in_range : goal.returns-then-are_in_range
returns-then-are_in_range c =
    let r = row_with c.args.row.now (points_of c.args.own.now) in (
      c.in-Some.refusal,
      ap (λ b. first_failed (points_checks b c.args.limits.now c.args.row_place.now r))
          (sym c.are_in_range.ensures ∙ c.if-are_in_range.true)
          ∙ sym (c.in-Some.ensures r refl (length-map c.args.own.now point_of)),
      c.reason_of.ensures,
    )

pub returns-else-are_in_range : goal.returns-else-are_in_range
returns-else-are_in_range c =
    let r = row_with c.args.row.now (points_of c.args.own.now) in (
      CoordinateRange,
      ap (λ b. first_failed (points_checks b c.args.limits.now c.args.row_place.now r))
          (sym c.are_in_range.ensures ∙ c.if-are_in_range.false)
          ∙ range_first _ _ _ c.in-Some.refusal c.in_default-refusal.not-PointsNotAllowed
          (c.in-Some.ensures r refl (length-map c.args.own.now point_of)),
      refl,
    )
