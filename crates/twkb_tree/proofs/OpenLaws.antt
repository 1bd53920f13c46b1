-- The open rows decide which row may come next, and an accepted row moves them on.
use Rattle.std.proofs.Common.{◌≡◌, ℕ, zero, suc, ◌+◌, ◌<◌, List, [], ◌∷◌, length, Option, Some, None, get_or, sym}
use Rattle.std.proofs.Common.{◌∙◌, ap, subst, arith, ◌≤◌, Bool, true, false, refl, inl, inr, ◌==◌, eq-eqb, ◌++◌}
use Rattle.std.proofs.Common.{append_assoc, append-nil, ◌-◌}
use Rattle.std.specs.Prelude.{is_some, nat_le, reverse, is_none, ◌&&◌, ℤ, not, ◌||◌, nat_lt, if◌then◌else◌}
use Rattle.std.proofs.lemmas.Bool.Decides.{nat_tests}
use Rattle.std.proofs.lemmas.Bool.{cases_Bool}
use Rattle.std.proofs.lemmas.List.{reverse-append, length-reverse}
use Rattle.std.proofs.lemmas.Grind.{reverse_onto}
use Rattle.std.specs.List.{AllByRecursion}
use Rattle.twkb_points.specs.Point.{Point, AreInRange}
use Rattle.twkb_tree.specs.declared.kind.Kind.{Kind}
use Rattle.twkb_tree.specs.declared.open_rows.OpenRow.{OpenRow}
use Rattle.twkb_tree.specs.Rows.{Row, rows, rows_of, own_row, AreRowsOfOne, AreValid, AreValidRowsOfOne}
use Rattle.twkb_tree.specs.Admits.{last_at, steps_to, parent, first_child, first_below, or_else, fits, IsAdmitted}
use Rattle.twkb_tree.specs.Admits.{has_place, is_collection, is_geometry, has_points, id_in_range, id_allowed}
use Rattle.twkb_tree.specs.Admits.{has_same_ids, precision_in_range, has_needed_precision, precision_allowed}
use Rattle.twkb_tree.specs.Admits.{precision_fits, points_fit, since_root, geometry_rows, point_count, nest_kept}
use Rattle.twkb_tree.specs.Admits.{Accepts, IsOneRoot, Continues}
use Rattle.twkb_tree.specs.Open.{ids_by, IsOpenAt, AreOpenFrom, AreOpen, open_parent, row_of, child_by, child_of}
use Rattle.twkb_tree.specs.Open.{count_at, open_refusal_at, open_refusal, open_count, first_answer, opened, is_next}
use Rattle.twkb_tree.specs.Open.{open_continues, row_place_at, field_checks, points_checks, row_checks}
use Rattle.twkb_tree.specs.declared.kind.Kind.TheVariants as kind
use Rattle.twkb_tree.specs.Limits.{Allowance, IsValid}
use Rattle.twkb_tree.specs.Refusal.{checks_under, checks_at, first_failed, refusal_after, refusal, is_one_root}
use Rattle.twkb_tree.specs.Refusal.{continues, Check, are_in_range, has_none, accepts, place_checks, id_checks}
use Rattle.twkb_tree.specs.Refusal.{precision_checks}
use Rattle.twkb_tree.specs.declared.row_checks.Refusal.{Refusal}
use Rattle.twkb_tree.specs.declared.row_checks.Refusal.TheVariants.{BadPlace}
use Rattle.twkb_tree.specs.Tree.{Tree}
use Rattle.twkb_tree.proofs.RowForest.{within_test, both_true, both, below_test, test_below, test_within, facts}
use Rattle.twkb_tree.proofs.RowForest.{fits_by, none_fit, are_in_range-true, points_in_range}
use Rattle.twkb_tree.proofs.RowSteps.{last_at-other, first_below-other, other_depth}
use Rattle.twkb_tree.proofs.RowLaws.{admitted_rows, as_list, rest_deep, root_depth, below_root, since_root-over}
use Rattle.twkb_tree.proofs.RowLaws.{deep_reverse, weight-onto}
use Rattle.twkb_tree.proofs.LimitLaws.{one_since_root, continued}
use Rattle.twkb_tree.specs.declared.row_place.RowPlace.{RowPlace}

-- ==== What the open rows say of the rows so far: enough to decide about the next row.

-- the kind of the row, if there is a row
abbrev pub kind_by : Option Row → Option Kind
kind_by None = None
kind_by (Some p) = Some p.kind

-- two rows of one kind have the same kind in this test
pub head_kind : (p q : Row) → kind_by (Some p) ≡ kind_by (Some q) → p.kind ≡ q.kind
head_kind p q e = cc e

-- either both rows have an id or neither has
pub head_id : (f g : Row) → ids_by (Some f) ≡ ids_by (Some g) → is_some f.id ≡ is_some g.id
head_id f g e = cc e

-- whether a row may come at a depth depends on the number of open rows alone
pub steps_open : (d : ℕ) (before : List Row) (os : List OpenRow) → AreOpen before os
    → steps_to d before ≡ nat_le d (length os)
steps_open zero before os a = grind (arith, nat_tests)
steps_open (suc d) [] os a = grind (arith, nat_tests, a.all)
steps_open (suc d) (r ∷ before) os a = grind (arith, nat_tests, a.all)

-- the open row at a depth, counted from a depth above it
open_from : (j d e : ℕ) (before : List Row) (os : List OpenRow) (blank : OpenRow) → e ≡ j + d
    → d < length os → AreOpenFrom j before os → IsOpenAt e before (get_or os d blank)
open_from j d e before [] blank same lt h = absurd (omega arith)
open_from j zero e before (o ∷ os) blank same lt h = subst (λ k. IsOpenAt k before o) (omega arith) h.0
open_from j (suc d) e before (o ∷ os) blank same lt h = open_from (suc j) d e before os blank
    (omega arith) (omega arith) h.1

-- the open row at a depth is that of the last row there
pub open_at : (d : ℕ) (before : List Row) (os : List OpenRow) (blank : OpenRow) → AreOpen before os
    → d < length os → IsOpenAt d before (get_or os d blank)
open_at d before os blank a lt = open_from 0 d d before os blank (omega arith) lt a.each

-- the kind of an open row is that of the last row at its depth
pub kind_at : (d : ℕ) (before : List Row) (o : OpenRow) → IsOpenAt d before o → kind_by (last_at d before) ≡ Some o.kind
kind_at d before o h = ap kind_by h.1 ∙ ap (λ k. Some k) (sym h.2)

-- an open row to fill empty places
pub blank_row : OpenRow
blank_row = record { kind = kind.Point; child_ids = None }

-- ==== The test of a row by the open rows is the test by the rows so far.

-- ---- the tests look only at the kind of the parent and at the id of the first child

-- of the first child only the id matters
first_checks : (l : Allowance) (steps : Bool) (p f g : Option Row) (nodes points : ℕ) (r : Row)
    → ids_by f ≡ ids_by g → first_failed (checks_under l steps p f nodes points r) ≡ first_failed
    (checks_under l steps p g nodes points r)
first_checks l steps p None None nodes points r e = refl
first_checks l steps p (Some f) (Some g) nodes points r e = rw (head_id f g e) refl
first_checks l steps p _ _ nodes points r e = cc e

-- of the parent only the kind matters
parent_checks : (l : Allowance) (steps : Bool) (p q f : Option Row) (nodes points : ℕ) (r : Row)
    → kind_by p ≡ kind_by q → first_failed (checks_under l steps p f nodes points r) ≡ first_failed
    (checks_under l steps q f nodes points r)
parent_checks l steps None None f nodes points r e = refl
parent_checks l steps (Some p) (Some q) f nodes points r e = rw (head_kind p q e) refl
parent_checks l steps _ _ f nodes points r e = cc e

-- a row that is too deep is refused for its place
pub stepless : (l : Allowance) (steps : Bool) (p f : Option Row) (nodes points : ℕ) (r : Row)
    → steps ≡ false → first_failed (checks_under l steps p f nodes points r) ≡ Some BadPlace
stepless l steps p f nodes points r e = rw e refl

-- ---- what the open rows say

-- the parent of a row below a root
pub open_parent_at : (d : ℕ) (os : List OpenRow) (blank : OpenRow) → d < length os
    → open_parent (suc d) os ≡ Some (get_or os d blank)
open_parent_at d [] blank lt = absurd (omega arith)
open_parent_at zero (o ∷ os) blank lt = refl
open_parent_at (suc d) (o ∷ os) blank lt = open_parent_at d os blank (omega arith)

-- a root has no parent
pub no_open_parent : (os : List OpenRow) → open_parent zero os ≡ None
no_open_parent [] = refl
no_open_parent (o ∷ os) = refl

-- a first child made from an open row has an id as recorded
pub ids_by-child_by : (b : Option Bool) → ids_by (child_by b) ≡ b
ids_by-child_by (Some true) = refl
ids_by-child_by _ = refl

-- the parent found by the open rows has the kind of the parent among the rows
pub kind_under : (d : ℕ) (before : List Row) (os : List OpenRow) → AreOpen before os → d ≤ length os
    → kind_by (row_of (open_parent d os)) ≡ kind_by (parent d before)
kind_under zero before os a le = ap (λ o. kind_by (row_of o)) (no_open_parent os)
kind_under (suc d) before os a le =
    ap (λ o. kind_by (row_of o)) (open_parent_at d os blank_row (omega arith))
    ∙ sym (kind_at d before (get_or os d blank_row)
    (open_at d before os blank_row a (omega arith)))

-- the first child by the open rows has an id exactly if the one among the rows has
pub ids_under : (d : ℕ) (before : List Row) (os : List OpenRow) → AreOpen before os → d ≤ length os
    → ids_by (child_of (open_parent d os)) ≡ ids_by (first_child d before)
ids_under zero before os a le = ap (λ o. ids_by (child_of o)) (no_open_parent os)
ids_under (suc d) before os a le =
    ap (λ o. ids_by (child_of o)) (open_parent_at d os blank_row (omega arith))
    ∙ ids_by-child_by (get_or os d blank_row).child_ids
    ∙ (open_at d before os blank_row a (omega arith)).3

-- the number of rows of the geometry
pub nodes_under : (d : ℕ) (before : List Row) → count_at d (length (since_root before)) ≡ length
    (geometry_rows d before)
nodes_under zero before = refl
nodes_under (suc d) before = refl

-- the number of points of the geometry
pub points_under : (d : ℕ) (before : List Row) → count_at d (point_count (since_root before))
    ≡ point_count (geometry_rows d before)
points_under zero before = refl
points_under (suc d) before = refl

-- ---- the two tests

-- both tests give the same reason for a row at a depth
refused_at : (l : Allowance) (d : ℕ) (before : List Row) (os : List OpenRow) (r : Row) → AreOpen before os
    → open_refusal_at l d os (length (since_root before)) (point_count (since_root before)) r
    ≡ first_failed (checks_at l d before r)
refused_at l d before os r a =
    let nodes = length (geometry_rows d before) in
    let points = point_count (geometry_rows d before) in
    let steps = steps_open d before os a in
    elim (cases_Bool (nat_le d (length os))) [
      | inl near ↦
          let le = within_test d (length os) near in
          rw (nodes_under d before, points_under d before, sym steps)
          (parent_checks l (steps_to d before) (row_of (open_parent d os)) (parent d before)
          (child_of (open_parent d os)) nodes points r (kind_under d before os a le)
          ∙ first_checks l (steps_to d before) (parent d before) (child_of (open_parent d os))
          (first_child d before) nodes points r (ids_under d before os a le))
      | inr far ↦
          stepless l (nat_le d (length os)) (row_of (open_parent d os))
          (child_of (open_parent d os)) (count_at d (length (since_root before)))
          (count_at d (point_count (since_root before))) r far
          ∙ sym (stepless l (steps_to d before) (parent d before) (first_child d before) nodes points r (steps ∙ far))
    ]

-- both tests give the same reason
pub open_refused : (l : Allowance) (before : List Row) (os : List OpenRow) (r : Row)
    → AreOpen before os → open_refusal l os (length (since_root before))
    (point_count (since_root before)) r ≡ refusal_after l before r
open_refused l before os r a = refused_at l r.depth before os r a

-- ==== The open rows are updated row by row.

-- the first child stays the first
ids_by-or_else : (f : Option Row) (r : Row) → first_answer (ids_by f) (is_some r.id) ≡ ids_by (or_else f (Some r))
ids_by-or_else None r = refl
ids_by-or_else (Some f) r = refl

-- a new row is its own open row
new_open : (d : ℕ) (r : Row) (before : List Row) → r.depth ≡ d
    → IsOpenAt d (r ∷ before) (record { kind = r.kind; child_ids = None })
new_open d r before e = let t : (r.depth == d) ≡ true = eq-eqb r.depth d e in (r, rw t refl, refl, rw t refl)

-- the parent gets one more child
parent_open : (d : ℕ) (r : Row) (before : List Row) (o : OpenRow) → r.depth ≡ suc d
    → IsOpenAt d before o → IsOpenAt d (r ∷ before)
    (record { kind = o.kind; child_ids = first_answer o.child_ids (is_some r.id) })
parent_open d r before o e h =
    let off : (r.depth == d) ≡ false = other_depth r.depth d (omega arith) in
    let on : (r.depth == suc d) ≡ true = eq-eqb r.depth (suc d) e in
    let here : first_below d (r ∷ before) ≡ or_else (first_below d before) (Some r) = rw (off, on) refl in (
      h.0,
      last_at-other d r before (omega arith) ∙ h.1,
      h.2,
      ap (λ b. first_answer b (is_some r.id))
          h.3 ∙ ids_by-or_else (first_below d before) r ∙ ap ids_by (sym here),
    )

-- rows above the parent stay as they are
other_open : (d : ℕ) (r : Row) (before : List Row) (o : OpenRow) → suc d < r.depth
    → IsOpenAt d before o → IsOpenAt d (r ∷ before) o
other_open d r before o lt h = (
  h.0,
  last_at-other d r before (omega arith) ∙ h.1,
  h.2,
  h.3
      ∙ ap ids_by (sym (first_below-other d r before lt)),
)

-- each open row after one more row
opened_each : (j d : ℕ) (r : Row) (before : List Row) (os : List OpenRow) → r.depth ≡ j + d
    → d ≤ length os → AreOpenFrom j before os → AreOpenFrom j (r ∷ before) (opened d os r)
opened_each j zero r before os e le h = (new_open j r before (omega arith), tt)
opened_each j (suc d) r before [] e le h = tt
opened_each j (suc zero) r before (o ∷ os) e le h =
    (parent_open j r before o (omega arith) h.0, (new_open (suc j) r before (omega arith), tt))
opened_each j (suc (suc d)) r before (o ∷ os) e le h = (
  other_open j r before o (omega arith) h.0,
  opened_each (suc j) (suc d) r before os
      (omega arith) (omega arith) h.1,
)

-- the number of open rows after one more row
length-opened : (d : ℕ) (r : Row) (os : List OpenRow) → d ≤ length os → length (opened d os r) ≡ suc d
length-opened (suc d) r [] le = absurd (omega arith)
length-opened (suc (suc d)) r (o ∷ os) le = omega (arith, length-opened (suc d) r os (omega arith))
length-opened _ r _ le = refl

-- a row is at most one level below the open rows
pub steps_within : (d : ℕ) (before : List Row) → steps_to d before ≡ true → d ≤ open_count before
steps_within zero before h = omega arith
steps_within (suc d) [] h = cc h
steps_within (suc d) (r ∷ before) h = grind (arith, nat_tests)

-- the open rows after one more row
pub open_more : (before : List Row) (os : List OpenRow) (r : Row) → steps_to r.depth before ≡ true
    → AreOpen before os → AreOpen (r ∷ before) (opened r.depth os r)
open_more before os r h a =
    let le : r.depth ≤ length os = omega (arith, steps_within r.depth before h, a.all) in
    record { each = opened_each 0 r.depth r before os (omega arith) le a.each; all = length-opened r.depth r os le }

-- before the first row no row is open
pub open_none : AreOpen [] []
open_none = record { each = tt; all = refl }

-- ==== A row is judged by the rows of the last geometry alone.

-- ---- admitted rows have open rows

-- admitted rows have open rows
pub open_rows : (before : List Row) → IsAdmitted before → (os : List OpenRow) × AreOpen before os
open_rows [] a = ([], open_none)
open_rows (r ∷ before) a =
    let rest = open_rows before a.1 in (
      opened r.depth rest.0 r,
      open_more before rest.0 r
          (both_true (steps_to r.depth before) (fits (parent r.depth before)
          (first_child r.depth before) r) a.0).0 rest.1,
    )

-- ---- earlier rows do not matter if a row at the depth comes after them

-- the last row at a depth is not an earlier one
last_over : (d : ℕ) (xs earlier : List Row) (r : Row) → last_at d xs ≡ Some r → last_at d (xs ++ earlier) ≡ Some r
last_over d [] earlier r e = cc e
last_over d (x ∷ xs) earlier r e = elim (cases_Bool (x.depth == d)) [
  | inl here ↦ rw here (rw here at e)
  | inr off ↦ rw off (last_over d xs earlier r (rw off at e))
]

-- the first row below it is not an earlier one
first_over : (d : ℕ) (xs earlier : List Row) (r : Row) → last_at d xs ≡ Some r
    → first_below d (xs ++ earlier) ≡ first_below d xs
first_over d [] earlier r e = cc e
first_over d (x ∷ xs) earlier r e = elim (cases_Bool (x.depth == d)) [
  | inl here ↦ rw here refl
  | inr off ↦ rw (off, first_over d xs earlier r (rw off at e)) refl
]

-- an open row is the same with earlier rows
open_over : (d : ℕ) (xs earlier : List Row) (o : OpenRow) → IsOpenAt d xs o → IsOpenAt d (xs ++ earlier) o
open_over d xs earlier o h = (
  h.0,
  last_over d xs earlier h.0 h.1,
  h.2,
  h.3
      ∙ sym (ap ids_by (first_over d xs earlier h.0 h.1)),
)

-- all open rows are the same with earlier rows
each_over : (d : ℕ) (xs earlier : List Row) (os : List OpenRow) → AreOpenFrom d xs os → AreOpenFrom d (xs ++ earlier) os
each_over d xs earlier [] h = tt
each_over d xs earlier (o ∷ os) h = (open_over d xs earlier o h.0, each_over (suc d) xs earlier os h.1)

-- the number of open rows is the same with earlier rows
are_over : (x : Row) (xs earlier : List Row) (os : List OpenRow) → AreOpen (x ∷ xs) os → AreOpen (x ∷ xs ++ earlier) os
are_over x xs earlier os a = record { each = each_over 0 (x ∷ xs) earlier os a.each; all = a.all }

-- the open rows of the last geometry are those of all rows
pub open_last : (xs earlier : List Row) (os : List OpenRow) → 0 < length xs → AreOpen xs os → AreOpen (xs ++ earlier) os
open_last [] earlier os some a = absurd (omega (arith, some))
open_last (x ∷ xs) earlier os some a = are_over x xs earlier os a

-- ---- the row is judged the same

-- the rows back to the last root
pub since_last : (s : Row) (rs earlier : List Row) → AreRowsOfOne (s ∷ rs)
    → since_root (reverse (s ∷ rs) ++ earlier) ≡ reverse (s ∷ rs)
since_last s rs earlier a =
    let split : reverse (s ∷ rs) ≡ reverse rs ++ s ∷ [] = reverse_onto rs s [] in
    let deep = deep_reverse rs [] (rest_deep a.0 s rs a.1 a.2) tt in
    let root = root_depth a.0 s [] rs a.1 (append-nil (rows 0 a.0) ∙ a.2) in
    ap (λ xs. since_root (xs ++ earlier)) split ∙ ap since_root
    (append_assoc (reverse rs) (s ∷ []) earlier) ∙ since_root-over (reverse rs) s earlier deep
    root ∙ sym split

-- with the same open rows and the same last geometry, a row is judged the same
judged_alike : (l : Allowance) (before other : List Row) (os : List OpenRow) (r : Row)
    → AreOpen before os → AreOpen other os → since_root before ≡ since_root other
    → refusal_after l before r ≡ refusal_after l other r
judged_alike l before other os r a b same =
    sym (open_refused l before os r a) ∙ ap (λ xs. open_refusal l os (length xs) (point_count xs) r)
    same ∙ open_refused l other os r b

-- earlier geometries change nothing
pub local_refusal : (l : Allowance) (s : Row) (rs earlier : List Row) (r : Row)
    → AreRowsOfOne (s ∷ rs) → refusal l (earlier ++ s ∷ rs) r ≡ refusal l (s ∷ rs) r
local_refusal l s rs earlier r a =
    let open_now = open_rows (reverse (s ∷ rs)) (admitted_rows (s ∷ rs) (as_list s rs a)) in
    let some : 0 < length (reverse (s ∷ rs)) = omega (arith, length-reverse (s ∷ rs)) in
    let all = open_last (reverse (s ∷ rs)) (reverse earlier) open_now.0 some open_now.1 in
    ap (λ xs. refusal_after l xs r) (reverse-append earlier (s ∷ rs))
    ∙ judged_alike l (reverse (s ∷ rs) ++ reverse earlier) (reverse (s ∷ rs)) open_now.0 r all open_now.1
    (since_last s rs (reverse earlier) a ∙ sym (one_since_root (s ∷ rs) a))

-- a row at depth 0 is judged by no row
root_at : (l : Allowance) (d : ℕ) (before other : List Row) (r : Row) → d ≡ 0
    → first_failed (checks_at l d before r) ≡ first_failed (checks_at l d other r)
root_at l d before other r e = rw e refl

-- a root is judged by no row
pub root_refusal : (l : Allowance) (rs : List Row) (r : Row) → r.depth ≡ 0 → refusal l rs r ≡ refusal l [] r
root_refusal l rs r e = root_at l r.depth (reverse rs) [] r e

-- ---- the test for one geometry, by the open rows

-- at least one row is open after a row
open_count-some : (x : Row) (xs ys : List Row) (zs : List Row) → zs ≡ ys ++ x ∷ xs → 0 < open_count zs
open_count-some x xs [] zs e = rw e (omega arith)
open_count-some x xs (y ∷ ys) zs e = rw e (omega arith)

-- a row is a root exactly if it comes first
next_is : (rs : List Row) (os : List OpenRow) (r : Row) → AreOpen (reverse rs) os → is_next os r ≡ is_one_root rs r
next_is [] (o ∷ os) r a = absurd (omega (arith, a.all))
next_is (s ∷ rs) [] r a = absurd
    (omega (
      arith,
      a.all,
      open_count-some s [] (reverse rs) (reverse (s ∷ rs))
          (reverse_onto rs s []),
    ))
next_is _ _ r a = refl

-- reversed rows have as many points
pub point_count-reverse : (rs : List Row) → point_count (reverse rs) ≡ point_count rs
point_count-reverse rs = weight-onto (λ r. length r.points) rs [] ∙ omega arith

-- the test by the open rows is the test by the rows
pub continues_open : (l : Allowance) (rs : List Row) (os : List OpenRow) (r : Row) → AreRowsOfOne rs
    → AreOpen (reverse rs) os → open_continues l os (length rs) (point_count rs) r
    ≡ continues l rs r
continues_open l rs os r a open_now =
    let nodes : length (since_root (reverse rs)) ≡ length rs = ap (λ xs. length xs)
    (one_since_root rs a) ∙ length-reverse rs in
    let points : point_count (since_root (reverse rs)) ≡ point_count rs = ap point_count
    (one_since_root rs a) ∙ point_count-reverse rs in
    let same : open_refusal l os (length rs) (point_count rs) r ≡ refusal l rs r =
    ap (λ n. open_refusal l os n (point_count rs) r) (sym nodes)
    ∙ ap (λ n. open_refusal l os (length (since_root (reverse rs))) n r) (sym points)
    ∙ open_refused l (reverse rs) os r open_now in
    ap (λ o. is_none o && is_next os r) same ∙ ap (λ b. is_none (refusal l rs r) && b) (next_is rs os r open_now)

-- ==== A row is refused exactly if it is not accepted.

-- ---- no test fails exactly if all hold

-- each test holds
abbrev AllHold : List Check → Type 0
AllHold cs = AllByRecursion (λ c. c.holds ≡ true) cs

-- the first test holds, and none of the others fails
fails_first : (b : Bool) (why : Refusal) (cs : List Check)
    → first_failed (record { holds = b; otherwise = why } ∷ cs) ≡ None → (b ≡ true)
    × (first_failed cs ≡ None)
fails_first true why cs e = (refl, e)
fails_first false why cs e = cc e

-- each test holds if none fails
all_hold : (cs : List Check) → first_failed cs ≡ None → AllHold cs
all_hold [] e = tt
all_hold (c ∷ cs) e = let h = fails_first c.holds c.otherwise cs e in (h.0, all_hold cs h.1)

-- ---- the tests and what a row must be

-- a precision that passes both tests fits
pub precision_joined : (p : Option Row) (q : Option ℤ) → has_needed_precision p q ≡ true
    → precision_allowed p q ≡ true → precision_fits p q ≡ true
precision_joined None q a b = a
precision_joined (Some p) q a b = joined_at (is_collection p.kind) q a b
  where
    joined_at : (w : Bool) (q : Option ℤ) → (not w || is_some q) ≡ true → (w || is_none q) ≡ true
        → (if w then is_some q else is_none q) ≡ true
    joined_at true q a b = a
    joined_at false q a b = b

-- a precision that fits passes both tests
pub precision_tested : (p : Option Row) (q : Option ℤ) → precision_fits p q ≡ true
    → (has_needed_precision p q ≡ true) × (precision_allowed p q ≡ true)
precision_tested None q h = (h, refl)
precision_tested (Some p) q h = tested_at (is_collection p.kind) q h
  where
    tested_at : (w : Bool) (q : Option ℤ) → (if w then is_some q else is_none q) ≡ true
        → ((not w || is_some q) ≡ true) × ((w || is_none q) ≡ true)
    tested_at true q h = (h, refl)
    tested_at false q h = (refl, h)

-- points that fit pass the test of kinds without points
points_test : (k : Kind) (w : Bool) (ps : List Point) → points_fit k w ps ≡ true → (has_points k || has_none ps) ≡ true
points_test k w [] h = elim (cases_Bool (has_points k)) [
  | inl has ↦ rw has refl
  | inr lacks ↦ rw lacks refl
]
points_test k w (p ∷ ps) h = elim (cases_Bool (has_points k)) [
  | inl has ↦ rw has refl
  | inr lacks ↦ absurd (none_fit k w p ps lacks h)
]

-- ---- accepted, and not refused

-- the tests of a row, by name
pub record Passes (l : Allowance) (steps : Bool) (p f : Option Row) (nodes points : ℕ) (r : Row) : Type 0 where
  pub place : (steps && has_place p r.kind) ≡ true
  pub nest : nest_kept l p r.depth ≡ true
  pub nodes_left : nat_lt nodes l.nodes ≡ true
  pub id_range : id_in_range r.id ≡ true
  pub id : id_allowed p r.kind r.id ≡ true
  pub same : has_same_ids f r.id ≡ true
  pub range : precision_in_range r.precision ≡ true
  pub needed : has_needed_precision p r.precision ≡ true
  pub precision : precision_allowed p r.precision ≡ true
  pub allowed : (has_points r.kind || has_none r.points) ≡ true
  pub in_range : are_in_range r.points ≡ true
  pub points_left : nat_le (points + length r.points) l.points ≡ true
  pub number : points_fit r.kind (is_geometry p) r.points ≡ true

-- each test holds if none fails, by name
pub passes : (l : Allowance) (steps : Bool) (p f : Option Row) (nodes points : ℕ) (r : Row)
    → first_failed (checks_under l steps p f nodes points r) ≡ None
    → Passes l steps p f nodes points r
passes l steps p f nodes points r e =
    let h = all_hold (checks_under l steps p f nodes points r) e in
    let from_4 = h.1.1.1.1 in
    let from_8 = from_4.1.1.1.1 in
    record {
      place = h.0;
      nest = h.1.0;
      nodes_left = h.1.1.0;
      id_range = h.1.1.1.0;
      id = from_4.0;
      same = from_4.1.0;
      range = from_4.1.1.0;
      needed = from_4.1.1.1.0;
      precision = from_8.0;
      allowed = from_8.1.0;
      in_range = from_8.1.1.0;
      points_left = from_8.1.1.1.0;
      number = from_8.1.1.1.1.0;
    }

-- none fails if each test holds, by name
pub passed : (l : Allowance) (steps : Bool) (p f : Option Row) (nodes points : ℕ) (r : Row)
    → Passes l steps p f nodes points r → first_failed
    (checks_under l steps p f nodes points r) ≡ None
passed l steps p f nodes points r h = rw (
  h.place,
  h.nest,
  h.nodes_left,
  h.id_range,
  h.id,
  h.same,
  h.range,
  h.needed,
  h.precision,
  h.allowed,
  h.in_range,
  h.points_left,
  h.number,
) refl

-- a row that passes the tests fits
pub joined : (l : Allowance) (steps : Bool) (p f : Option Row) (nodes points : ℕ) (r : Row)
    → Passes l steps p f nodes points r → (steps && fits p f r) ≡ true
joined l steps p f nodes points r h =
    let place = both_true steps (has_place p r.kind) h.place in
    both steps (fits p f r) place.0 (fits_by p f r (record {
      place = place.1;
      id_range = h.id_range;
      id = h.id;
      same = h.same;
      range = h.range;
      precision = precision_joined p r.precision h.needed h.precision;
      points = h.number;
    }))

-- a row that fits passes
pub apart : (l : Allowance) (steps : Bool) (p f : Option Row) (nodes points : ℕ) (r : Row)
    → (steps && fits p f r) ≡ true → nest_kept l p r.depth ≡ true → nodes < l.nodes
    → AreInRange r.points → points + length r.points ≤ l.points → Passes l steps p f nodes points r
apart l steps p f nodes points r e nest few in_range room =
    let two = both_true steps (fits p f r) e in
    let h = facts p f r two.1 in
    let precision = precision_tested p r.precision h.precision in
    record {
      place = both steps (has_place p r.kind) two.0 h.place;
      nest = nest;
      nodes_left = test_below nodes l.nodes few;
      id_range = h.id_range;
      id = h.id;
      same = h.same;
      range = h.range;
      needed = precision.0;
      precision = precision.1;
      allowed = points_test r.kind (is_geometry p) r.points h.points;
      in_range = are_in_range-true r.points in_range;
      points_left = test_within (points + length r.points) l.points room;
      number = h.points;
    }

-- a row that is not refused is accepted
pub accepts_unrefused : (l : Allowance) (before : List Row) (r : Row)
    → refusal_after l before r ≡ None → Accepts l before r
accepts_unrefused l before r e =
    let h = passes l (steps_to r.depth before) (parent r.depth before) (first_child r.depth before)
    (length (geometry_rows r.depth before)) (point_count (geometry_rows r.depth before)) r e in
    record {
      admitted = joined _ _ _ _ _ _ _ h;
      nest = h.nest;
      nodes = below_test _ _ h.nodes_left;
      in_range = points_in_range r.points h.in_range;
      points = within_test _ _ h.points_left;
    }

-- a row that is accepted is not refused
pub accepted_unrefused : (l : Allowance) (before : List Row) (r : Row) → Accepts l before r
    → refusal_after l before r ≡ None
accepted_unrefused l before r a =
    passed _ _ _ _ _ _ _ (apart l (steps_to r.depth before) (parent r.depth before)
    (first_child r.depth before) (length (geometry_rows r.depth before))
    (point_count (geometry_rows r.depth before)) r a.admitted a.nest a.nodes a.in_range a.points)

-- ---- the tests that compute

-- an option that is none
pub none_is : {A : Type 0} (o : Option A) → is_none o ≡ true → o ≡ None
none_is None h = refl
none_is (Some x) h = cc h

-- a row that the test accepts is accepted
pub accepts_is : (l : Allowance) (rs : List Row) (r : Row) → accepts l rs r ≡ true → Accepts l (reverse rs) r
accepts_is l rs r h = accepts_unrefused l (reverse rs) r (none_is (refusal l rs r) h)

-- the test accepts an accepted row
pub accepts_true : (l : Allowance) (rs : List Row) (r : Row) → Accepts l (reverse rs) r → accepts l rs r ≡ true
accepts_true l rs r h = ap is_none (accepted_unrefused l (reverse rs) r h)

-- the test of a root gives the fact
one_root_is : (rs : List Row) (r : Row) → is_one_root rs r ≡ true → IsOneRoot rs r
one_root_is [] r h = grind (arith, nat_tests)
one_root_is (s ∷ rs) r h = grind (arith, nat_tests)

-- the fact makes the test of a root true
one_root_true : (rs : List Row) (r : Row) → IsOneRoot rs r → is_one_root rs r ≡ true
one_root_true [] r h = grind (arith, nat_tests)
one_root_true (s ∷ rs) r h = grind (arith, nat_tests)

-- the test for one geometry gives the fact
pub continues_is : (l : Allowance) (rs : List Row) (r : Row) → continues l rs r ≡ true → Continues l rs r
continues_is l rs r h =
    let two = both_true (accepts l rs r) (is_one_root rs r) h in
    (accepts_is l rs r two.0, one_root_is rs r two.1)

-- the fact makes the test for one geometry true
pub continues_true : (l : Allowance) (rs : List Row) (r : Row) → Continues l rs r → continues l rs r ≡ true
continues_true l rs r h = both (accepts l rs r) (is_one_root rs r) (accepts_true l rs r h.0) (one_root_true rs r h.1)

-- ==== The effect of an accepted row: a new geometry, or one more row of the last.

-- the rows of two lists of geometries, one after the other
pub rows_of-append : (gs hs : List Tree) → rows_of (gs ++ hs) ≡ rows_of gs ++ rows_of hs
rows_of-append [] hs = refl
rows_of-append (g ∷ gs) hs = ap (λ rs. rows 0 g ++ rs) (rows_of-append gs hs)
    ∙ sym (append_assoc (rows 0 g) (rows_of gs) (rows_of hs))

-- the rows of the last geometry come last
pub rows_of-last : (gs : List Tree) (g : Tree) → rows_of (gs ++ g ∷ []) ≡ rows_of gs ++ rows 0 g
rows_of-last gs g = rows_of-append gs (g ∷ []) ∙ ap (λ rs. rows_of gs ++ rs) (append-nil (rows 0 g))

-- at least one row, all of one valid geometry, are the rows of a valid geometry
one_more : (l : Allowance) (rs : List Row) (r : Row) → AreValidRowsOfOne l (rs ++ r ∷ [])
    → (h : Tree) × IsValid l h × (rows 0 h ≡ rs ++ r ∷ [])
one_more l [] r a = a
one_more l (s ∷ rs) r a = a

-- the geometry of rows with one more row
pub continued_tree : (l : Allowance) (rs : List Row) (r : Row) → AreValidRowsOfOne l rs
    → Continues l rs r → (h : Tree) × IsValid l h × (rows 0 h ≡ rs ++ r ∷ [])
continued_tree l rs r a h = one_more l rs r (continued l rs r a h)

-- an accepted root is accepted with no row before it
pub root_alone : (l : Allowance) (rs : List Row) (r : Row) → Accepts l (reverse rs) r → r.depth ≡ 0 → Accepts l [] r
root_alone l rs r accepts root = accepts_unrefused l [] r (sym (root_refusal l rs r root)
    ∙ accepted_unrefused l (reverse rs) r accepts)

-- an accepted root begins a geometry
pub new_geometry : (l : Allowance) (rs : List Row) (r : Row) → Accepts l (reverse rs) r
    → r.depth ≡ 0 → (h : Tree) × IsValid l h × (rows 0 h ≡ r ∷ [])
new_geometry l rs r accepts root =
    continued_tree l [] r tt (root_alone l rs r accepts root, root)

-- an accepted row of the last geometry makes its rows longer
grown_from : (l : Allowance) (earlier : List Row) (s : Row) (rs : List Row) (r : Row)
    → AreRowsOfOne (s ∷ rs) → AreValidRowsOfOne l (s ∷ rs)
    → Accepts l (reverse (earlier ++ s ∷ rs)) r → 0 < r.depth → (h : Tree) × IsValid l h
    × (rows 0 h ≡ s ∷ rs ++ r ∷ [])
grown_from l earlier s rs r one valid accepts below =
    let here = accepts_unrefused l (reverse (s ∷ rs)) r (sym (local_refusal l s rs earlier r one)
    ∙ accepted_unrefused l (reverse (earlier ++ s ∷ rs)) r accepts) in
    continued_tree l (s ∷ rs) r valid (here, below)

-- the last geometry is valid
pub last_valid : (l : Allowance) (gs : List Tree) (g : Tree) → AreValid l (gs ++ g ∷ []) → IsValid l g
last_valid l [] g v = v.0
last_valid l (h ∷ gs) g v = last_valid l gs g v.1

-- any other accepted row belongs to the last geometry
pub grown_geometry : (l : Allowance) (gs : List Tree) (g : Tree) (r : Row)
    → AreValid l (gs ++ g ∷ []) → Accepts l (reverse (rows_of (gs ++ g ∷ []))) r → 0 < r.depth
    → (h : Tree) × IsValid l h × (rows 0 h ≡ rows 0 g ++ r ∷ [])
grown_geometry l gs g r v accepts below =
    let valid = last_valid l gs g v in
    let b = below_root g valid.tree in
    let there : Accepts l (reverse (rows_of gs ++ own_row None 0 g ∷ b.0)) r =
    subst (λ rs. Accepts l (reverse rs) r) (rows_of-last gs g
    ∙ ap (λ rs. rows_of gs ++ rs) b.1) accepts in
    let grown = grown_from l (rows_of gs) (own_row None 0 g) b.0 r (g, valid.tree, b.1) (g, valid, b.1) there below in
    (grown.0, grown.1, grown.2 ∙ ap (λ rs. rs ++ r ∷ []) (sym b.1))

-- ==== The place of the next row by the open rows, and the first test of a row that fails.

-- a root has no parent
pub root_stands : (d : ℕ) (rows : List OpenRow) (nodes points : ℕ) → d ≡ 0 → (d ≤ length rows)
    × ◌≡◌ {A = RowPlace} (record { depth = d; parent = None; nodes = 0; points = 0 })
    (row_place_at d rows nodes points)
root_stands zero rows nodes points e = (omega arith, rw (no_open_parent rows) refl)
root_stands (suc d) rows nodes points e = absurd (omega arith)

-- any other row's parent is the open row one level above it
pub below_stands : (d : ℕ) (rows : List OpenRow) (nodes points : ℕ) (blank : OpenRow) → (d ≡ 0 → ⊥)
    → d - 1 < length rows
    → (d ≤ length rows) × ◌≡◌ {A = RowPlace}
    (record {
      depth = d;
      parent = Some (get_or rows (d - 1) blank);
      nodes = nodes;
      points = points;
    }) (row_place_at d rows nodes points)
below_stands zero rows nodes points blank deep lt = absurd (deep refl)
below_stands (suc d) rows nodes points blank deep lt =
    let above : suc d - 1 ≡ d = omega arith in
    (omega arith, rw (above, open_parent_at d rows blank (omega arith)) refl)

-- ---- the first test of a row that fails

-- the first reason, if there is one; otherwise the second
abbrev pub first_else : Option Refusal → Option Refusal → Option Refusal
first_else None other = other
first_else (Some why) other = Some why

-- the first test that fails is one of the first tests, or one of the others
pub first_failed-append : (checks more : List Check)
    → first_failed (checks ++ more) ≡ first_else (first_failed checks) (first_failed more)
first_failed-append [] more = refl
first_failed-append (c ∷ checks) more = elim (cases_Bool c.holds) [
  | inl holds ↦ rw holds (first_failed-append checks more)
  | inr fails ↦ rw fails refl
]

-- the first test of a row's fields that fails is one of its place, its id or its precision
pub in_fields : (l : Allowance) (s : RowPlace) (r : Row) (place id precision : Option Refusal)
    → place ≡ first_failed (place_checks l true (row_of s.parent) s.nodes s.depth r.kind)
    → id ≡ first_failed (id_checks (row_of s.parent) (child_of s.parent) r)
    → precision ≡ first_failed (precision_checks (row_of s.parent) r)
    → first_else place (first_else id precision) ≡ first_failed (field_checks l s r)
in_fields l s r place id precision a b c =
    let precisions = precision_checks (row_of s.parent) r in
    let ids = id_checks (row_of s.parent) (child_of s.parent) r in
    let places = place_checks l true (row_of s.parent) s.nodes s.depth r.kind in
    rw (a, b, c) (sym (first_failed-append places (ids ++ precisions)
    ∙ ap (first_else (first_failed places)) (first_failed-append ids precisions)))

-- the first test of a row that fails is one of its fields or of its points
pub in_row : (in_range : Bool) (l : Allowance) (s : RowPlace) (r : Row)
    (fields points : Option Refusal)
    → fields ≡ first_failed (field_checks l s r)
    → points ≡ first_failed (points_checks in_range l s r)
    → first_else fields points ≡ first_failed (row_checks in_range l s r)
in_row in_range l s r fields points a b =
    rw (a, b) (sym (first_failed-append (field_checks l s r) (points_checks in_range l s r)))
