use Rattle.std.proofs.Common.{◌∙◌, List, take, ap, arith, inl, inr, refl, rules, subst, sym}
use Rattle.std.proofs.lemmas.Bool.{true≢false}
use Rattle.twkb_points.specs.Point.{Point, AreInRange}
use Rattle.twkb_tree.specs.Admits.{Continues}
use Rattle.twkb_tree.specs.Refusal.{first_failed}
use Rattle.twkb_tree.specs.declared.row_checks.Refusal.TheVariants.{BadPlace, CoordinateRange}
use Rattle.twkb_tree.specs.Rows.{Row}
use Rattle.twkb_tree.proofs.LimitLaws.{continues_largest}
use Rattle.twkb_flat.specs.Rows.{row_with}
use Rattle.twkb_buffer.specs.Numbers.{row_number_of}
use Rattle.twkb_arrays.specs.JudgedRow.{RefusedAfter, row_from_c, AreOutOfRange, checks_there}
use Rattle.twkb_arrays.specs.Rows.{points_of}
use Rattle.twkb_arrays.proofs.TakingLemmas.{all_refused, continues_there, no_place, refused_range, refused_there}
use Rattle.twkb_arrays.proofs.TakingLemmas.{row_pushed}
use Rattle.twkb_arrays.proofs.appended_row.push_judged.Goals as goal

pub returns-in_default-clause-refused : goal.returns-in_default-clause-refused
returns-in_default-clause-refused c = rw c.refused.ensures (inl (c.in_default.ensures, refl))

pub returns-then-not-has_right_id-clause-refused : goal.returns-then-not-has_right_id-clause-refused
returns-then-not-has_right_id-clause-refused c = rw c.refused-then-not-has_right_id.ensures (inr (
  c.in-Some.kind,
  c.in-Some.ensures,
  inl (λ right. true≢false (sym (c.has_right_id.ensures.1 right) ∙ c.if-not-has_right_id.true), refl),
))

pub returns-in_default-place-clause-refused : goal.returns-in_default-place-clause-refused
returns-in_default-place-clause-refused c =
    let row = c.args.row.now in
    let r = row_from_c c.in-Some.kind row (take row.points c.args.ahead.now) in
    let none = no_place c.args.limits c.args.form.now r c.requires.valid
    c.in_default-place.ensures in
    let right = c.has_right_id.ensures.0 c.if-not-has_right_id.false in
    rw c.refused-in_default-place.ensures (inr (
      c.in-Some.kind,
      c.in-Some.ensures,
      inr (right, inr (omega (arith, c.if-row-ahead.false), (BadPlace, none, refl))),
    ))

pub returns-in-Some-refused_row-clause-refused : goal.returns-in-Some-refused_row-clause-refused
returns-in-Some-refused_row-clause-refused c =
    let l = c.args.limits in
    let row = c.args.row.now in
    let own = take row.points c.args.ahead.now in
    let s = c.in-Some-place.row_place in
    let found = c.in-Some-refused_row.ensures in
    let first = sym (refused_there l c.args.form.now s (row_from_c c.in-Some.kind row own)
    c.requires.valid c.in-Some-place.ensures)
    ∙ ap (λ (t : Row). first_failed (checks_there l s t)) (sym (c.bare_row-bare.ensures own))
    ∙ found.1 in
    let right = c.has_right_id.ensures.0 c.if-not-has_right_id.false in
    rw c.refused-in-Some-refused_row.ensures (inr (
      c.in-Some.kind,
      c.in-Some.ensures,
      inr (
        right,
        inr
            (omega (arith, c.if-row-ahead.false), (found.0, first, ap row_number_of found.2)),
      ),
    ))

pub push_from-requires : goal.push_from-requires
push_from-requires c = λ ps given.
    let l = c.args.limits in
    let rs = c.args.form.now in
    let row = c.args.row.now in
    let own = take row.points c.args.ahead.now in
    let s = c.in-Some-place.row_place in
    let r = row_from_c c.in-Some.kind row own in
    let bare = c.bare_row-bare.result in
    let row_is = c.bare_row-bare.ensures own in
    let next = continues_there l rs s r c.requires.valid c.in-Some-place.ensures
    (ap (λ (t : Row). first_failed (checks_there l s t)) (sym row_is) ∙ c.in_default-refused_row.ensures)
    (subst AreInRange given.0 given.1) c.requires.next in
    continues_largest l rs (row_with bare ps) (search rules)
    (subst (Continues l rs) (sym row_is ∙ ap (λ (qs : List Point). row_with bare qs) (sym given.0)) next)

pub returns-in-Ok-clause-pushed : goal.returns-in-Ok-clause-pushed
returns-in-Ok-clause-pushed c =
    let l = c.args.limits in
    let rs = c.args.form.now in
    let row = c.args.row.now in
    let own = take row.points c.args.ahead.now in
    let s = c.in-Some-place.row_place in
    let r = row_from_c c.in-Some.kind row own in
    let bare = c.bare_row-bare.result in
    let row_is = c.bare_row-bare.ensures own in
    let pushed = c.in-Ok.ensures.pushed in
    let next = continues_there l rs s r c.requires.valid c.in-Some-place.ensures
    (ap (λ (t : Row). first_failed (checks_there l s t)) (sym row_is) ∙ c.in_default-refused_row.ensures)
    (subst AreInRange pushed.2.0 pushed.2.1) c.requires.next in
    row_pushed l rs c.push_from.new.self row c.args.ahead.now c.in-Some.kind (row_with bare pushed.0)
    c.requires.valid c.in-Some.ensures (c.has_right_id.ensures.0 c.if-not-has_right_id.false)
    (omega (arith, c.if-row-ahead.false)) (sym row_is ∙ ap (λ (qs : List Point). row_with bare qs)
    (sym pushed.2.0)) next pushed.1

pub returns-in-Err-clause-refused : goal.returns-in-Err-clause-refused
returns-in-Err-clause-refused c =
    let l = c.args.limits in
    let rs = c.args.form.now in
    let row = c.args.row.now in
    let own = take row.points c.args.ahead.now in
    let s = c.in-Some-place.row_place in
    let right = c.has_right_id.ensures.0 c.if-not-has_right_id.false in
    let row_is = ap (λ (t : Row). first_failed (checks_there l s t))
    (sym (c.bare_row-bare.ensures own)) in
    let refused = refused_range l rs s (row_from_c c.in-Some.kind row own) c.requires.valid
    c.in-Some-place.ensures (row_is ∙ c.in_default-refused_row.ensures) in
    all_refused (AreOutOfRange (points_of own)) (RefusedAfter l rs row c.args.ahead.now) c.in-Err.stop
    (λ number out. inr (
      c.in-Some.kind,
      c.in-Some.ensures,
      inr (
        right,
        inr
            (omega (arith, c.if-row-ahead.false), (CoordinateRange, refused out.0, out.1)),
      ),
    )) c.in-Err.ensures.refused
