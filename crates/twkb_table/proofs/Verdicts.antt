-- The verdict on a record is its row exactly if that row may come next, and tables consist of such records.
use mathlib.Core.List.{reverse_aux}
use Rattle.std.proofs.Common.{◌≡◌, Bool, true, false, List, [], ◌∷◌, None, refl, sym, ◌∙◌, subst, inl, inr, ℕ, zero}
use Rattle.std.proofs.Common.{suc, ◌+◌, ◌≤◌, ◌==◌, length, Option, Some, ap, arith, ◌++◌}
use Rattle.std.specs.Prelude.{◌&&◌, ℤ, decimal, IfSome, map, reverse, ◌↔◌, MatchOption}
use Rattle.std.proofs.lemmas.Bool.{true≢false, cases_Bool}
use Rattle.std.specs.List.{AllByRecursion}
use Rattle.std.proofs.lemmas.Fmt.{decimal_injective}
use Rattle.std.proofs.lemmas.List.{map-append}
use Rattle.std.proofs.lemmas.Grind.{flat_map-append}
use Rattle.twkb_points.specs.Point.{Point}
use Rattle.twkb_polyline.specs.Polyline.{polyline, DecodesTo}
use Rattle.twkb_polyline.specs.declared.fault.PolyReason.{PolyReason}
use Rattle.twkb_polyline.proofs.FaultLemmas.{one_polyline, text_fault_none, text_fault_one}
use Rattle.twkb_tree.specs.Rows.{Row, rows_of, rows, AreValid, AreGeometries, AreShallow, AreValidRows, IsAtRoot}
use Rattle.twkb_tree.specs.Rows.{IsShallow}
use Rattle.twkb_tree.specs.declared.kind.Kind.{Kind}
use Rattle.twkb_tree.specs.Tree.{IsPrecision, Tree, IsId}
use Rattle.twkb_tree.specs.Limits.{Allowance, IsAllowance, IsValid}
use Rattle.twkb_tree.specs.Admits.{parent, first_child, steps_to, has_place, id_allowed, has_same_ids}
use Rattle.twkb_tree.specs.Admits.{has_needed_precision, precision_allowed, is_geometry, points_fit}
use Rattle.twkb_tree.specs.Admits.{precision_in_range, fits, has_points, nest_kept, geometry_rows, point_count}
use Rattle.twkb_tree.specs.Admits.{since_root, Accepts, AreAccepted, id_in_range}
use Rattle.twkb_tree.specs.Kind.{word_of}
use Rattle.twkb_tree.proofs.OpenLaws.{precision_joined, precision_tested}
use Rattle.twkb_tree.proofs.RowForest.{fits_by, id_in_range-true, is_precision-true, facts, no_points_of}
use Rattle.twkb_tree.proofs.RowForest.{optional_id_is, precision_is}
use Rattle.twkb_tree.proofs.RowLaws.{valid_depths, one_reading, first_all_ended, all_apart, all_join}
use Rattle.twkb_tree.proofs.LimitLaws.{accepted_rows, valid_front, row_accepted}
use Rattle.twkb_table.specs.Judged.{Verdict, Accepted, Refused, When, Unless, place_of, points_left, JudgedByPoints}
use Rattle.twkb_table.specs.Judged.{JudgedByPlace, Judged, Place, UnlessFaulty, JudgedById, JudgedHavingId}
use Rattle.twkb_table.specs.Judged.{JudgedByPrecision, JudgedHavingPrecision, rule_reason, place_seen}
use Rattle.twkb_table.specs.declared.reason.RowReason.{RowReason}
use Rattle.twkb_table.specs.Record.{optional, IsDepthField, IsOptionalId, IsOptionalPrecision, Record, record_of}
use Rattle.twkb_table.specs.Record.{header}
use Rattle.twkb_table.specs.declared.reason.RowReason.TheVariants.{FieldCount, BadDepth, BadKind, BadPlace, TooDeep}
use Rattle.twkb_table.specs.declared.reason.RowReason.TheVariants.{TooManyNodes, BadId, IdNotAllowed, MixedIds}
use Rattle.twkb_table.specs.declared.reason.RowReason.TheVariants.{BadPrecision, PrecisionMissing}
use Rattle.twkb_table.specs.declared.reason.RowReason.TheVariants.{PrecisionNotAllowed, PolylineNotAllowed, Polyline}
use Rattle.twkb_table.specs.declared.reason.RowReason.TheVariants.{PointCount}
use Rattle.twkb_table.specs.declared.decimal.TheConstants.{GREATEST_DEPTH}
use Rattle.twkb_table.specs.RowFault.{Named}
use Rattle.twkb_table.specs.Text.{BeginAtRoot}
use Rattle.twkb_table.proofs.FieldLemmas.{one_depth, one_word, one_optional, precision-ids, ArePlain, one_list}
use Rattle.twkb_table.proofs.FieldLemmas.{head_same, tail_same}
use Rattle.std.proofs.lemmas.Bool.Decides.{nat_tests}
use Rattle.twkb_tree.specs.declared.row_place.RowPlace.{RowPlace}
use Rattle.twkb_tree.specs.Open.{row_of, child_of}
use Rattle.twkb_tree.specs.Refusal.{Check, first_failed, place_checks, id_checks, precision_checks}
use Rattle.twkb_tree.specs.declared.row_checks.Refusal.{Refusal}

-- ==== Steps along the chain of reasons.

-- ---- tests

pub not_false : (b : Bool) → (b ≡ false → ⊥) → b ≡ true
not_false true h = refl
not_false false h = absurd (h refl)

pub stays_true : (b : Bool) → b ≡ true → b ≡ false → ⊥
stays_true b t f = true≢false (sym t ∙ f)

pub both_true : (a b : Bool) → (a && b) ≡ true → (a ≡ true) × (b ≡ true)
both_true true b h = (refl, h)
both_true false b h = cc h

pub both : (a b : Bool) → a ≡ true → b ≡ true → (a && b) ≡ true
both a b p q = rw (p, q) refl

-- ---- a row has passed each step

pub accepted_apart : (r : Row) (reason : RowReason) → Accepted r ≡ Refused reason → ⊥
accepted_apart r reason e = cc e

pub same_accepted : (r s : Row) → Accepted r ≡ Accepted s → r ≡ s
same_accepted r s e = cc e

pub passed : {P Others : Type 0} (r : Row) (reason : RowReason) → When (Accepted r) P reason Others → (P → ⊥) × Others
passed r reason (inl h) = absurd (accepted_apart r reason h.1)
passed r reason (inr h) = h

pub found : {A : Type 0} {P Others : A → Type 0} (r : Row) (reason : RowReason)
    → Unless (Accepted r) P reason Others → (a : A) × P a × Others a
found r reason (inl h) = absurd (accepted_apart r reason h.1)
found r reason (inr h) = h

-- ---- a step whose reason does not hold is passed

pub skip : {P Others : Type 0} (v : Verdict) (reason : RowReason) → When v P reason Others → (P → ⊥) → Others
skip v reason (inl h) holds = absurd (holds h.0)
skip v reason (inr h) holds = h.1

pub pick : {A : Type 0} (P : A → Type 0) (Others : A → Type 0) (v : Verdict) (reason : RowReason)
    (a : A) → Unless v P reason Others → P a → ((b : A) → P b → b ≡ a) → Others a
pick P Others v reason a (inl h) p one = absurd (h.0 a p)
pick P Others v reason a (inr h) p one = subst Others (one h.0 h.1) h.2

-- ---- a step gives one verdict if what follows does

pub when_one : {P A B : Type 0} (v w : Verdict) (reason : RowReason) → (A → B → v ≡ w)
    → When v P reason A → When w P reason B → v ≡ w
when_one v w reason f (inl h) (inl g) = h.1 ∙ sym g.1
when_one v w reason f (inl h) (inr g) = absurd (g.0 h.0)
when_one v w reason f (inr h) (inl g) = absurd (h.0 g.0)
when_one v w reason f (inr h) (inr g) = f h.1 g.1

pub unless_one : {A : Type 0} (P : A → Type 0) (V W : A → Type 0) (v w : Verdict)
    (reason : RowReason) → ((a b : A) → P a → P b → a ≡ b) → ((a : A) → V a → W a → v ≡ w)
    → Unless v P reason V → Unless w P reason W → v ≡ w
unless_one P V W v w reason one f (inl h) (inl g) = h.1 ∙ sym g.1
unless_one P V W v w reason one f (inl h) (inr g) = absurd (h.0 g.0 g.1)
unless_one P V W v w reason one f (inr h) (inl g) = absurd (g.0 h.0 h.1)
unless_one P V W v w reason one f (inr h) (inr g) = f g.0 (subst V (one h.0 g.0 h.1 g.1) h.2) g.2

-- ==== A record whose verdict is a row is the record of that row, and the row may come next.

pub precision_in_range-true : (q : Option ℤ) → IfSome q IsPrecision → precision_in_range q ≡ true
precision_in_range-true None h = refl
precision_in_range-true (Some n) h = is_precision-true n h

-- What an accepted record says.
pub record Passed (l : Allowance) (before : List Row) (fields : Record) (r : Row) : Type 0 where
  pub text : fields ≡ record_of r
  pub accepts : Accepts l before r

-- there are few enough points so far
abbrev pub HasRoom : Allowance → List Row → Type 0
HasRoom l before = (d : ℕ) → point_count (geometry_rows d before) ≤ l.points

five_same : (a b c e f a' b' c' e' f' : List ℕ) → a ≡ a' → b ≡ b' → c ≡ c' → e ≡ e' → f ≡ f'
    → Path (List (List ℕ)) (a ∷ b ∷ c ∷ e ∷ f ∷ []) (a' ∷ b' ∷ c' ∷ e' ∷ f' ∷ [])
five_same a b c e f a' b' c' e' f' p q r s t = cc

-- what the last field of an accepted record says
record PointsPassed (l : Allowance) (before : List Row) (d : ℕ) (k : Kind) (id q : Option ℤ)
    (text : List ℕ) (r : Row) : Type 0 where
  points : List Point
  decoded : DecodesTo text (points_left l (place_of d before)) points
  fit : points_fit k (is_geometry (parent d before)) points ≡ true
  row : r ≡ record { depth = d; kind = k; id = id; precision = q; points = points }

judged_points : (l : Allowance) (before : List Row) (d : ℕ) (k : Kind) (id q : Option ℤ)
    (text : List ℕ) (r : Row) → JudgedByPoints l (place_of d before) k id q text (Accepted r)
    → PointsPassed l before d k id q text r
judged_points l before d k id q text r h = elim (passed r PolylineNotAllowed h).1 [
  | inl fault ↦ absurd (accepted_apart r (Polyline fault.0 fault.1) fault.3)
  | inr some ↦
      let last = passed r PointCount some.2 in
      record {
        points = some.0;
        decoded = some.1;
        fit = not_false (points_fit k (is_geometry (parent d before)) some.0) last.0;
        row = same_accepted r (record { depth = d; kind = k; id = id; precision = q; points = some.0 }) last.1;
      }
]

pub judged_row : (l : Allowance) (before : List Row) (fields : Record) (r : Row) → HasRoom l before
    → Judged l before fields (Accepted r) → Passed l before fields r
judged_row l before (a ∷ b ∷ c ∷ e ∷ f ∷ []) r room h =
    let at = found r BadDepth h in
    let d = at.0 in
    let of = found r BadKind at.2 in
    let k = of.0 in
    let p = parent d before in
    let place = passed r BadPlace of.2 in
    let nest = passed r TooDeep place.1 in
    let nodes = passed r TooManyNodes nest.1 in
    let ids = found r BadId nodes.1 in
    let id = ids.0 in
    let allowed = passed r IdNotAllowed ids.2 in
    let same = passed r MixedIds allowed.1 in
    let precisions = found r BadPrecision same.1 in
    let q = precisions.0 in
    let needed = passed r PrecisionMissing precisions.2 in
    let extra = passed r PrecisionNotAllowed needed.1 in
    let precise = precision_joined p q (not_false (has_needed_precision p q) needed.0)
    (not_false (precision_allowed p q) extra.0) in
    let stood = both_true (steps_to d before) (has_place p k)
    (not_false (steps_to d before && has_place p k) place.0) in
    let points = judged_points l before d k id q f r extra.1 in
    let row : Row = record { depth = d; kind = k; id = id; precision = q; points = points.points }
    in
    let fit = fits_by p (first_child d before) row (record {
      place = stood.1;
      id_range = id_in_range-true id ids.1.1;
      id = not_false (id_allowed p k id) allowed.0;
      same = not_false (has_same_ids (first_child d before) id) same.0;
      range = precision_in_range-true q precisions.1.1;
      precision = precise;
      points = points.fit;
    }) in
    subst (λ (s : Row). Passed l before (a ∷ b ∷ c ∷ e ∷ f ∷ []) s) (sym points.row) (record {
      text = five_same a b c e f (decimal d) (word_of k) (optional id) (optional q)
          (polyline points.points) at.1.0 of.1 ids.1.0 precisions.1.0 points.decoded.spelled;
      accepts = record {
        admitted = both (steps_to d before) (fits p (first_child d before) row) stood.0 fit;
        nest = not_false (nest_kept l p d) nest.0;
        nodes = omega (arith, nodes.0);
        in_range = points.decoded.in_range;
        points = (let few = points.decoded.few in let most = room d in omega (arith, few, most));
      };
    })
judged_row l before _ r room h = absurd (accepted_apart r FieldCount h)

-- ---- what the rows so far allow

rows_there : (d : ℕ) (before : List Row) → (d == 0) ≡ false → geometry_rows d before ≡ since_root before
rows_there zero before e = absurd (true≢false e)
rows_there (suc d) before e = refl

below_root : (l : Allowance) (r : Row) (before : List Row) → Accepts l before r
    → (r.depth == 0) ≡ false → length r.points + point_count (since_root before) ≤ l.points
below_root l r before a e =
    let same = rows_there r.depth before e in
    let few = a.points in
    omega (arith, few, ap point_count same)

-- accepted rows have at most as many points as a geometry may have
pub has_room : (l : Allowance) (before : List Row) → AreAccepted l before → HasRoom l before
has_room l before a zero = omega arith
has_room l [] a (suc d) = omega arith
has_room l (r ∷ before) a (suc d) = elim (cases_Bool (r.depth == 0)) [
  | inl root ↦ let few = a.0.points in rw root (omega (arith, few))
  | inr below ↦ rw below (below_root l r before a.0 below)
]

-- ==== A record has only one verdict.

points_one : (text : List ℕ) (most : ℕ) (V W : List Point → Type 0) (v w : Verdict)
    → ((ps : List Point) → V ps → W ps → v ≡ w) → UnlessFaulty text most v V
    → UnlessFaulty text most w W → v ≡ w
points_one text most V W v w f (inl h) (inl g) =
    let same = text_fault_one text most h.0 g.0 h.1 g.1 h.2 g.2 in
    h.3 ∙ ap (λ (o : ℕ). Refused (Polyline o h.1)) same.0
    ∙ ap (λ (r : PolyReason). Refused (Polyline g.0 r)) same.1 ∙ sym g.3
points_one text most V W v w f (inl h) (inr g) = absurd (text_fault_none text most h.0 h.1 g.0 h.2 g.1)
points_one text most V W v w f (inr h) (inl g) = absurd (text_fault_none text most g.0 g.1 h.0 g.2 h.1)
points_one text most V W v w f (inr h) (inr g) = f g.0
    (subst V (one_polyline h.0 g.0 (sym h.1.spelled ∙ g.1.spelled)) h.2) g.2

by_points : (l : Allowance) (here : Place) (k : Kind) (id q : Option ℤ) (text : List ℕ)
    (v w : Verdict) → JudgedByPoints l here k id q text v
    → JudgedByPoints l here k id q text w → v ≡ w
by_points l here k id q text v w = when_one v w _
    (points_one text (points_left l here) _ _ v w (λ ps. when_one v w _ (λ a b. a ∙ sym b)))

by_place : (l : Allowance) (here : Place) (k : Kind) (id_field field text : List ℕ) (v w : Verdict)
    → JudgedByPlace l here k id_field field text v
    → JudgedByPlace l here k id_field field text w → v ≡ w
by_place l here k id_field field text v w =
    when_one v w _ (when_one v w _ (when_one v w _
    (unless_one (IsOptionalId id_field) _ _ v w _ (λ a b p q. one_optional a b p.1 q.1
    (sym p.0 ∙ q.0))
    (λ id. when_one v w _ (when_one v w _
    (unless_one (IsOptionalPrecision field) _ _ v w _
    (λ a b p q. one_optional a b (precision-ids a p.1) (precision-ids b q.1) (sym p.0 ∙ q.0))
    (λ q. when_one v w _ (when_one v w _ (by_points l here k id q text v w)))))))))

pub one_verdict : (l : Allowance) (before : List Row) (fields : Record) (v w : Verdict)
    → Judged l before fields v → Judged l before fields w → v ≡ w
one_verdict l before (x ∷ y ∷ z ∷ t ∷ u ∷ []) v w a b =
    unless_one (IsDepthField x) _ _ v w _ (λ d e p q. one_depth d e p.1 q.1 (sym p.0 ∙ q.0))
    (λ d. unless_one (λ k. y ≡ word_of k) _ _ v w _ (λ j k p q. one_word j k (sym p ∙ q))
    (λ k. by_place l (place_of d before) k z t u v w)) a b
one_verdict l before _ v w a b = a ∙ sym b

-- ==== The verdict on the record of a row that may come next is that row.

pub optional_precision_is : (q : Option ℤ) → precision_in_range q ≡ true → IfSome q IsPrecision
optional_precision_is None h = tt
optional_precision_is (Some n) h = precision_is n h

-- the row's points are the only ones to which its text decodes
decoded : (l : Allowance) (before : List Row) (r : Row) → Accepts l before r
    → DecodesTo (polyline r.points) (points_left l (place_of r.depth before)) r.points
decoded l before r a = record {
  spelled = refl;
  in_range = a.in_range;
  few = (let few = a.points in omega (arith, few));
}

pub row_judged : (l : Allowance) (before : List Row) (r : Row) → Accepts l before r → r.depth ≤ GREATEST_DEPTH
    → Judged l before (record_of r) (Accepted r)
row_judged l before r a le =
    let d = r.depth in
    let k = r.kind in
    let p = parent d before in
    let f = first_child d before in
    let two = both_true (steps_to d before) (fits p f r) a.admitted in
    let h = facts p f r two.1 in
    let no_text : (polyline r.points ≡ [] → ⊥) × (has_points k ≡ false)
    → ⊥ = λ e. e.0 (ap polyline (no_points_of k k (is_geometry p) r.points refl e.1 h.points)) in
    let placed = stays_true (steps_to d before && has_place p k)
    (both (steps_to d before) (has_place p k) two.0 h.place) in
    let few : l.nodes ≤ length (geometry_rows d before)
    → ⊥ = λ over. (let under = a.nodes in omega (arith, over, under)) in
    let id = optional_id_is r.id h.id_range in
    let precise = optional_precision_is r.precision h.range in
    let counted = inr (stays_true (points_fit k (is_geometry p) r.points) h.points, refl) in
    let points = inr (no_text, inr (r.points, decoded l before r a, counted)) in
    let tested = precision_tested p r.precision h.precision in
    let needed = stays_true (has_needed_precision p r.precision) tested.0 in
    let extra = stays_true (precision_allowed p r.precision) tested.1 in
    let precisions = inr (r.precision, (refl, precise), inr (needed, inr (extra, points))) in
    let allowed = stays_true (id_allowed p k r.id) h.id in
    let same = stays_true (has_same_ids f r.id) h.same in
    let ids = inr (r.id, (refl, id), inr (allowed, inr (same, precisions))) in
    inr (d, (refl, le), inr (k, refl, inr (placed, inr (stays_true (nest_kept l p d) a.nest, inr (few, ids)))))

-- ==== Tables: each of their rows is plain, they are read in one way, and their prefixes are tables.

-- ---- each row of valid geometries is plain

-- the row's id and precision are in their ranges
record IsRanged (r : Row) : Type 0 where
  id : IfSome r.id IsId
  precision : IfSome r.precision IsPrecision

ranged_row : (l : Allowance) (before : List Row) (r : Row) → Accepts l before r → IsRanged r
ranged_row l before r a =
    let two = both_true (steps_to r.depth before)
    (fits (parent r.depth before) (first_child r.depth before) r) a.admitted in
    let h = facts (parent r.depth before) (first_child r.depth before) r two.1 in
    record { id = optional_id_is r.id h.id_range; precision = optional_precision_is r.precision h.range }

ranged_rows : (l : Allowance) (before : List Row) → AreAccepted l before → AllByRecursion IsRanged before
ranged_rows l [] a = tt
ranged_rows l (r ∷ before) a = (ranged_row l before r a.0, ranged_rows l before a.1)

shallower : (m n : ℕ) (rs : List Row) → m ≤ n → AreShallow m rs → AreShallow n rs
shallower m n [] le h = tt
shallower m n (r ∷ rs) le h = (omega (arith, h.0), shallower m n rs le h.1)

-- no row of valid geometries is deeper than a field can say
pub shallow_rows : (l : Allowance) (gs : List Tree) → IsAllowance l → AreValid l gs
    → AreShallow GREATEST_DEPTH (rows_of gs)
shallow_rows l gs cap v = let most = cap.nest_cap in
    shallower (l.nest + 2) GREATEST_DEPTH (rows_of gs) (omega (arith, most))
    (valid_depths l (rows_of gs) (gs, v, refl))

-- what is true of each row of a reversed list is true of each row of the list
all_back : (P : Row → Type 0) (xs ys : List Row) → AllByRecursion P (reverse_aux xs ys)
    → AllByRecursion P xs × AllByRecursion P ys
all_back P [] ys h = (tt, h)
all_back P (x ∷ xs) ys h = let t = all_back P xs (x ∷ ys) h in ((t.1.0, t.0), t.1.1)

plain_each : (rs : List Row) → AreShallow GREATEST_DEPTH rs → AllByRecursion IsRanged rs → ArePlain rs
plain_each [] s h = tt
plain_each (r ∷ rs) s h = (record { depth = s.0; id = h.0.id; precision = h.0.precision }, plain_each rs s.1 h.1)

pub plain_rows : (l : Allowance) (gs : List Tree) → IsAllowance l → AreValid l gs → ArePlain (rows_of gs)
plain_rows l gs cap v =
    let ranged = ranged_rows l (reverse (rows_of gs)) (accepted_rows l (rows_of gs) (gs, v, refl)) in
    plain_each (rows_of gs) (shallow_rows l gs cap v) (all_back IsRanged (rows_of gs) [] ranged).0

-- ---- one reading

pub geometries : (l : Allowance) (gs : List Tree) → AreValid l gs → AreGeometries gs
geometries l [] v = tt
geometries l (g ∷ gs) v = (v.0.tree, geometries l gs v.1)

pub one_table : (l : Allowance) (records : List Record) (gs hs : List Tree) → IsAllowance l
    → Named l records gs → Named l records hs → gs ≡ hs
one_table l records gs hs cap a b =
    let tables : header ∷ map record_of (rows_of gs) ≡ header ∷ map record_of (rows_of hs) =
    sym a.table_of ∙ b.table_of in
    let lists = tail_same header header (map record_of (rows_of gs)) (map record_of (rows_of hs)) tables in
    let same = one_list (rows_of gs) (rows_of hs) (plain_rows l gs cap a.valid) (plain_rows l hs cap b.valid) lists in
    one_reading gs hs (geometries l gs a.valid) (geometries l hs b.valid) same

-- ---- prefixes

-- What splits a list of records splits the list of rows.
pub record Split (rs : List Row) (xs ys : List Record) : Type 0 where
  pub front : List Row
  pub more : List Row
  pub whole : rs ≡ front ++ more
  pub fronts : map record_of front ≡ xs
  pub others : map record_of more ≡ ys

pub split : (rs : List Row) (xs ys : List Record) → map record_of rs ≡ xs ++ ys → Split rs xs ys
split rs [] ys e = record { front = []; more = rs; whole = refl; fronts = refl; others = e }
split [] (x ∷ xs) ys e = cc e
split (r ∷ rs) (x ∷ xs) ys e =
    let head = head_same (record_of r) x (map record_of rs) (xs ++ ys) e in
    let rest = split rs xs ys (tail_same (record_of r) x (map record_of rs) (xs ++ ys) e) in
    record {
      front = r ∷ rest.front;
      more = rest.more;
      whole = ap (λ qs. r ∷ qs) rest.whole;
      fronts = ap (λ qs. record_of r ∷ qs) rest.fronts ∙ ap (λ q. q ∷ xs) head;
      others = rest.others;
    }

pub table_front : (l : Allowance) (front more : List Record) (gs : List Tree) → (front ≡ [] → ⊥)
    → Named l (front ++ more) gs → (hs : List Tree) × Named l front hs
table_front l [] more gs some n = absurd (some refl)
table_front l (h ∷ front) more gs some n =
    let head = head_same h header (front ++ more) (map record_of (rows_of gs)) n.table_of in
    let rest = tail_same h header (front ++ more) (map record_of (rows_of gs)) n.table_of in
    let s = split (rows_of gs) front more (sym rest) in
    let v = valid_front l s.front s.more (gs, n.valid, s.whole) in (
      v.0,
      record {
        table_of = ap (λ q. q ∷ front) head
            ∙ ap (λ qs. header ∷ qs) (sym s.fronts ∙ ap (λ qs. map record_of qs) (sym v.2));
        valid = v.1;
      },
    )

-- ==== The verdict on a record is a row exactly if it is that row's record and the row may come next.

last_shallow : (rs : List Row) (r : Row) → AreShallow GREATEST_DEPTH (rs ++ r ∷ []) → r.depth ≤ GREATEST_DEPTH
last_shallow [] r h = h.0
last_shallow (s ∷ rs) r h = last_shallow rs r h.1

-- a row that may come next is no deeper than a field can say
pub depth_fits : (l : Allowance) (rs : List Row) (r : Row) → IsAllowance l → AreValidRows l rs
    → Accepts l (reverse rs) r → r.depth ≤ GREATEST_DEPTH
depth_fits l rs r cap v a = let g = row_accepted l rs r v a in
    last_shallow rs r (subst (AreShallow GREATEST_DEPTH) g.2 (shallow_rows l g.0 cap g.1))

pub judged_rows : (l : Allowance) (rows : List Row) (fields : Record) (row : Row) → IsAllowance l
    → AreValidRows l rows → Judged l (reverse rows) fields (Accepted row)
    ↔ ((fields ≡ record_of row) × Accepts l (reverse rows) row)
judged_rows l rows fields row cap v = (
  λ j. (let p = judged_row l (reverse rows) fields row
      (has_room l (reverse rows) (accepted_rows l rows v)) j in (p.text, p.accepts)),
  λ h. subst (λ f. Judged l (reverse rows) f (Accepted row)) (sym h.0)
      (row_judged l (reverse rows) row h.1 (depth_fits l rows row cap v h.1)),
)

-- ==== Tables that are joined, and tables that are cut before a root.

-- the records of two lists of geometries, one after the other
pub records-append : (gs hs : List Tree) → map record_of (rows_of (gs ++ hs)) ≡ map record_of
    (rows_of gs) ++ map record_of (rows_of hs)
records-append gs hs = ap (λ rs. map record_of rs) (flat_map-append (rows 0) gs hs)
    ∙ map-append record_of (rows_of gs) (rows_of hs)

-- the records below a header
below_header : (l : Allowance) (records : List Record) (gs : List Tree)
    → Named l (header ∷ records) gs → records ≡ map record_of (rows_of gs)
below_header l records gs n = tail_same header header records (map record_of (rows_of gs)) n.table_of

pub named_joined : (l : Allowance) (records more : List Record) (gs hs : List Tree)
    → Named l (header ∷ records) gs → Named l (header ∷ more) hs
    → Named l (header ∷ (records ++ more)) (gs ++ hs)
named_joined l records more gs hs a b = record {
  table_of =
      ap (λ rs. header ∷ rs) (
      ap (λ rs. rs ++ more) (below_header l records gs a)
      ∙ ap (λ rs. map record_of (rows_of gs) ++ rs) (below_header l more hs b)
      ∙ sym (records-append gs hs)
      );
  valid = all_join (IsValid l) gs hs a.valid b.valid;
}

-- a record of depth 0 is that of a root
at_root : (rs : List Row) (records : List Record) → AreShallow GREATEST_DEPTH rs → map record_of rs ≡ records
    → BeginAtRoot records → IsAtRoot rs
at_root [] records shallow e root = tt
at_root (r ∷ rs) records shallow e root = decimal_injective r.depth 0 (omega (arith, shallow.0))
    (omega arith) (subst BeginAtRoot (sym e) root)

pub named_cut : (l : Allowance) (records more : List Record) (ks : List Tree) → IsAllowance l
    → BeginAtRoot more → Named l (header ∷ (records ++ more)) ks
    → (gs hs : List Tree) × (ks ≡ gs ++ hs) × Named l (header ∷ records) gs × Named l (header ∷ more) hs
named_cut l records more ks cap root n =
    let s = split (rows_of ks) records more (sym (below_header l (records ++ more) ks n)) in
    let (gs, valid, front) = valid_front l s.front s.more (ks, n.valid, s.whole) in
    let shallow = all_apart (IsShallow GREATEST_DEPTH) s.front s.more
    (subst (λ rs. AreShallow GREATEST_DEPTH rs) s.whole (shallow_rows l ks cap n.valid)) in
    let (hs, whole, others) = first_all_ended gs s.more ks (geometries l gs valid)
    (geometries l ks n.valid) (at_root s.more more shallow.1 s.others root)
    (ap (λ rs. rs ++ s.more) front ∙ sym s.whole) in
    let valid_both = all_apart (IsValid l) gs hs (subst (AreValid l) whole n.valid) in (
      gs,
      hs,
      whole,
      record {
        table_of = ap (λ rs. header ∷ rs) (sym s.fronts
            ∙ ap (λ rs. map record_of rs) (sym front));
        valid = valid;
      },
      record {
        table_of = ap (λ rs. header ∷ rs) (sym s.others
            ∙ ap (λ rs. map record_of rs) (sym others));
        valid = valid_both.1;
      },
    )

-- ==== The first test of a row that fails gives its record the verdict.

-- the verdict is the reason of the first test that fails; if none fails, the others decide
abbrev pub WhenFailed : Verdict → List Check → Type 0 → Type 0
WhenFailed v [] Others = Others
WhenFailed v (c ∷ checks) Others = When v (c.holds ≡ false) (rule_reason c.otherwise)
    (WhenFailed v checks Others)

-- the first test that fails gives the verdict
pub judged_first : (v : Verdict) (checks : List Check) (Others : Type 0) (failed : Option Refusal)
    → failed ≡ first_failed checks
    → MatchOption failed Others (λ why. v ≡ Refused (rule_reason why))
    → WhenFailed v checks Others
judged_first v [] Others failed e h = rw e at h
judged_first v (c ∷ checks) Others failed e h = elim (cases_Bool c.holds) [
  | inl holds ↦ inr (
    λ fails. true≢false (sym holds ∙ fails),
    judged_first v checks Others failed
        (rw holds at e) h,
  )
  | inr fails ↦ inl (fails, rw (rw fails at e) at h)
]

-- the tests of a row's place give the verdict on its place
pub judged_place : (l : Allowance) (s : RowPlace) (k : Kind)
    (id_field precision_field text : List ℕ)
    (v : Verdict) (failed : Option Refusal)
    → failed ≡ first_failed (place_checks l true (row_of s.parent) s.nodes s.depth k)
    → MatchOption failed (JudgedById l (place_seen s) k id_field precision_field text v)
    (λ why. v ≡ Refused (rule_reason why))
    → JudgedByPlace l (place_seen s) k id_field precision_field text v
judged_place l s k id_field precision_field text v failed e h =
    by_number (judged_first v (place_checks l true (row_of s.parent) s.nodes s.depth k)
    (JudgedById l (place_seen s) k id_field precision_field text v) failed e h)
  where
    by_number : WhenFailed v (place_checks l true (row_of s.parent) s.nodes s.depth k)
        (JudgedById l (place_seen s) k id_field precision_field text v)
        → JudgedByPlace l (place_seen s) k id_field precision_field text v
    by_number (inl place) = inl place
    by_number (inr (a, inl nest)) = inr (a, inl nest)
    by_number (inr (a, inr (b, inl full))) = inr
        (a, inr (b, inl (grind (arith, nat_tests, full.0), full.1)))
    by_number (inr (a, inr (b, inr rest))) = inr
        (a, inr (b, inr (λ many. rest.0 (grind (arith, nat_tests)), rest.1)))

-- the tests of an id in range give the verdict on it
pub judged_having_id : (l : Allowance) (s : RowPlace) (r : Row) (precision_field text : List ℕ)
    (v : Verdict) (failed : Option Refusal) → id_in_range r.id ≡ true
    → failed ≡ first_failed (id_checks (row_of s.parent) (child_of s.parent) r)
    → MatchOption failed (JudgedByPrecision l (place_seen s) r.kind r.id precision_field text v)
    (λ why. v ≡ Refused (rule_reason why))
    → JudgedHavingId l (place_seen s) r.kind r.id precision_field text v
judged_having_id l s r precision_field text v failed in_range e h =
    skip v BadId (judged_first v (id_checks (row_of s.parent) (child_of s.parent) r)
    (JudgedByPrecision l (place_seen s) r.kind r.id precision_field text v) failed e h)
    (stays_true _ in_range)

-- the tests of a precision in range give the verdict on it
pub judged_having_precision : (l : Allowance) (s : RowPlace) (r : Row) (text : List ℕ) (v : Verdict)
    (failed : Option Refusal) → precision_in_range r.precision ≡ true
    → failed ≡ first_failed (precision_checks (row_of s.parent) r)
    → MatchOption failed (JudgedByPoints l (place_seen s) r.kind r.id r.precision text v)
    (λ why. v ≡ Refused (rule_reason why))
    → JudgedHavingPrecision l (place_seen s) r.kind r.id r.precision text v
judged_having_precision l s r text v failed in_range e h =
    skip v BadPrecision (judged_first v (precision_checks (row_of s.parent) r)
    (JudgedByPoints l (place_seen s) r.kind r.id r.precision text v) failed e h)
    (stays_true _ in_range)
