use Rattle.std.proofs.Common.{◌≡◌, ◌∙◌, false, sym, ap, refl, length, arith}
use Rattle.std.specs.Prelude.{is_none, is_some, not, Bool, true, Option, Some, None}
use Rattle.twkb_tree.specs.Limits.{Allowance, largest_limits}
use Rattle.twkb_tree.specs.Rows.{row_points}
use Rattle.twkb_tree.specs.Refusal.{first_failed}
use Rattle.twkb_tree.specs.Open.{row_checks}
use Rattle.twkb_flat.specs.Rows.{row_with}
use Rattle.twkb_flat.proofs.LastPoint.{continues_there, decides, kept_continues, misplaced, rows_open, too_deep}
use Rattle.twkb_flat.proofs.flat.Flat.admits.Goals as goal

-- what the test of an option for none says
none_found : {A : Type 0} (o : Option A) (b : Bool) → is_some o ≡ not b → b ≡ is_none o
none_found None true e = refl
none_found (Some x) false e = refl
none_found _ _ e = cc e

pub returns-then-not-is_next : goal.returns-then-not-is_next
returns-then-not-is_next c =
    let rows = c.args.self.now in
    let r = row_with c.args.row.now c.args.points.now in
    let os = rows_open rows c.levels-levels.ensures.sound in
    decides rows r false (
    misplaced largest_limits os.0 (length rows) (length (row_points rows)) r
    (sym (c.is_next.ensures os.0 r (os.1.all ∙ sym c.levels-levels.ensures.value) refl)
    ∙ c.if-not-is_next.true)
    ∙ kept_continues rows os.0 (length rows) (length (row_points rows)) r c.levels-levels.ensures.sound os.1 refl refl)

pub returns-then-row-levels : goal.returns-then-row-levels
returns-then-row-levels c =
    let rows = c.args.self.now in
    let r = row_with c.args.row.now c.args.points.now in
    let os = rows_open rows c.levels-levels.ensures.sound in
    decides rows r false (
    too_deep largest_limits os.0 (length rows) (length (row_points rows)) r
    (omega (arith, os.1.all, c.levels-levels.ensures.value, c.if-row-levels.true))
    ∙ kept_continues rows os.0 (length rows) (length (row_points rows)) r c.levels-levels.ensures.sound os.1 refl refl)

pub returns : goal.returns
returns c =
    let rows = c.args.self.now in
    let r = row_with c.args.row.now c.args.points.now in
    let os = rows_open rows c.levels-levels.ensures.sound in
    decides rows r c.is_none.result (
    none_found c.row_refusal.result c.is_none.result c.is_none.ensures
    ∙ ap is_none (c.row_refusal.ensures c.args.points.now refl)
    ∙ ap (λ (l : Allowance). is_none
    (first_failed (row_checks true l c.row_place-row_place.result r)))
    c.largest-limits.ensures
    ∙ continues_there largest_limits os.0 (length rows) (length (row_points rows))
    c.row_place-row_place.result r c.look.ensures (sym
    (c.is_next.ensures os.0 r (os.1.all ∙ sym c.levels-levels.ensures.value) refl)
    ∙ c.if-not-is_next.false) (
      omega (arith, os.1.all, c.levels-levels.ensures.value, c.if-row-levels.false),
      c.row_place-row_place.ensures os.0 os.1,
    )
    ∙ kept_continues rows os.0 (length rows) (length (row_points rows)) r c.levels-levels.ensures.sound os.1 refl refl)
