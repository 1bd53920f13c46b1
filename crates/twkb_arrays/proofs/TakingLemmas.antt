-- Geometries that are taken from arrays: their rows are those of one list of geometries, or of none.
use Rattle.std.proofs.Common.{◌≡◌, ℕ, ◌+◌, ◌<◌, ◌≤◌, ◌⊎◌, inl, inr, List, [], ◌∷◌, ◌++◌, length, take, drop}
use Rattle.std.proofs.Common.{Bool, true, false, sym, ap, ◌∙◌, arith, length-append, append_assoc, refl, subst, zero}
use Rattle.std.proofs.Common.{suc, get_or, Option, SFits, to_z, of_z, w8}
use Rattle.std.proofs.lemmas.List.{length-map, map-append, append-nil, length-reverse, length-take-le}
use Rattle.std.proofs.lemmas.Grind.{flat_map-append, common_steps}
use Rattle.std.specs.Prelude.{Some, None, reverse, nat_le, ◌==◌, ℤ, pos, negsuc, IfSome, if◌then◌else◌}
use Rattle.twkb_points.specs.Point.{Point, AreInRange, IsInRange}
use Rattle.twkb_tree.specs.Tree.{Tree, simple, collection, saturated, IsPrecision, IsTree}
use Rattle.twkb_tree.specs.Rows.{Row, rows, rows_of, row_points, AreValid, AreValidRowsOfOne, AreRowsOfOne, whole_row}
use Rattle.twkb_tree.specs.Limits.{Allowance, IsAllowance, IsValid}
use Rattle.twkb_tree.specs.Refusal.{refusal, checks_under, first_failed, are_in_range}
use Rattle.twkb_tree.specs.declared.row_checks.Refusal.{Refusal}
use Rattle.twkb_tree.proofs.RowLaws.{all_apart, one_reading, as_list, admitted_rows, length-row_points, one_geometry}
use Rattle.twkb_tree.proofs.TreeLemmas.{all_push}
use Rattle.twkb_tree.proofs.OpenLaws.{local_refusal, root_refusal, accepted_unrefused, steps_open, open_none}
use Rattle.twkb_tree.proofs.OpenLaws.{open_refused, stepless, accepts_unrefused, open_rows, point_count-reverse}
use Rattle.twkb_tree.proofs.LimitLaws.{refused_begins_none, continued, of_one, one_since_root}
use Rattle.twkb_table.proofs.FieldLemmas.{ArePlain, IsPlain, head_same}
use Rattle.twkb_table.proofs.Verdicts.{plain_rows, geometries}
use Rattle.twkb_buffer.specs.Polylines.{coordinates_of, coordinates_at}
use Rattle.twkb_buffer.specs.declared.point.BufferPoint.{BufferPoint}
use Rattle.twkb_buffer.proofs.RunLemmas.{coordinates_of-append}
use Rattle.twkb_arrays.specs.Rows.{LacksPlaces, array_points, array_rows, row_in_c, rows_in_c, kind_number, point_of}
use Rattle.twkb_arrays.specs.Rows.{points_of}
use Rattle.twkb_arrays.specs.FilledArrays.{HasTaken, IsFilled, IsWithin, TakesOne}
use Rattle.twkb_arrays.specs.declared.row.BufferRow.{BufferRow}
use Rattle.twkb_arrays.specs.declared.taken_geometries.Taken.{Taken}
use Rattle.twkb_arrays.specs.JudgedRow.{RefusedAfter, AcceptedAfter, HasRightId, row_from_c, is_no_precision}
use Rattle.twkb_arrays.specs.JudgedRow.{checks_there, range_refusal, BeginsAlone, BeginsLine, BeginsPoint}
use Rattle.twkb_arrays.specs.JudgedRow.{IsMadeAlone}
use Rattle.twkb_arrays.specs.WrittenArrays.{AreArrays, AreRead, ArePointsLeft, IsRefusedRow}
use Rattle.twkb_arrays.proofs.ArrayLemmas.{laid_length, laid_next, length-coordinates_of, BeginsWith, begins_with}
use Rattle.twkb_arrays.proofs.ArrayLemmas.{refused_row, row_points-append, same_row, one_after}
use Rattle.twkb_arrays.proofs.EndLemmas.{all_given, ends_next, has_room, lacks_end, none_later, passes}
use Rattle.std.proofs.lemmas.Bool.Decides.{nat_tests}
use Rattle.std.proofs.lemmas.Int.{ints, to_z-of_z}
use Rattle.twkb_tree.specs.declared.kind.Kind.{Kind}
use Rattle.twkb_tree.specs.declared.open_rows.OpenRow.{OpenRow}
use Rattle.twkb_tree.specs.declared.row_place.RowPlace.{RowPlace}
use Rattle.twkb_tree.specs.Admits.{Accepts, Continues, IsOneRoot, since_root, point_count, geometry_rows, steps_to}
use Rattle.twkb_tree.specs.Admits.{parent, first_child, fits, points_fit}
use Rattle.twkb_tree.specs.Open.{AreOpen, open_count, open_parent, row_of, child_of, count_at, open_refusal}
use Rattle.twkb_tree.specs.Open.{row_place_at}
use Rattle.twkb_tree.specs.declared.row_checks.Refusal.TheVariants.{BadPlace, CoordinateRange}
use Rattle.twkb_tree.specs.declared.kind.Kind.TheVariants as kind
use Rattle.twkb_tree.proofs.RowForest.{are_in_range-true, points_in_range, both_true, test_within, is_precision-true}
use Rattle.twkb_flat.specs.Taking.{IfRefused}
use Rattle.twkb_flat.specs.declared.stop.Stop.{Stop}
use Rattle.twkb_flat.specs.declared.stop.Stop.TheVariants as stop
use Rattle.twkb_grammar.specs.Written.{canonical_blob}
use Rattle.twkb_grammar.specs.declared.style.Style.{Style}
use Rattle.twkb_writer.specs.Bytes.{one_line, one_point}

-- ==== Geometries that are taken into arrays.

-- ---- the rows and points of one more geometry

pub rows_of-more : (gs : List Tree) (g : Tree) (form : List Row) → rows 0 g ≡ form
    → rows_of (gs ++ g ∷ []) ≡ rows_of gs ++ form
rows_of-more gs g form same = flat_map-append (rows 0) gs (g ∷ [])
    ∙ ap (λ (xs : List Row). rows_of gs ++ xs) (append-nil (rows 0 g) ∙ same)

points_of-more : (gs : List Tree) (g : Tree) (form : List Row) → rows 0 g ≡ form
    → row_points (rows_of (gs ++ g ∷ [])) ≡ row_points (rows_of gs) ++ row_points form
points_of-more gs g form same = ap row_points (rows_of-more gs g form same)
    ∙ row_points-append (rows_of gs) form

-- their numbers
count_more : (gs : List Tree) (g : Tree) (form : List Row) → rows 0 g ≡ form
    → length (rows_of (gs ++ g ∷ [])) ≡ length (rows_of gs) + length form
count_more gs g form same = ap (λ (xs : List Row). length xs) (rows_of-more gs g form same)
    ∙ length-append (rows_of gs) form

point_count_more : (gs : List Tree) (g : Tree) (form : List Row) → rows 0 g ≡ form
    → length (row_points (rows_of (gs ++ g ∷ []))) ≡ length (row_points (rows_of gs)) + length (row_points form)
point_count_more gs g form same = ap (λ (xs : List Point). length xs)
    (points_of-more gs g form same) ∙ length-append (row_points (rows_of gs)) (row_points form)

-- a geometry has a row
pub some_rows : (g : Tree) → 0 < length (rows 0 g)
some_rows (simple p s) = omega arith
some_rows (collection p ids gs) = omega arith

-- there are no more geometries than rows
pub few_geometries : (gs : List Tree) → length gs ≤ length (rows_of gs)
few_geometries [] = omega arith
few_geometries (g ∷ gs) = omega (arith, length-append (rows 0 g) (rows_of gs), some_rows g, few_geometries gs)

-- ---- the arrays

-- arrays that are filled are as long as they were
filled_lengths : {start_rows in_rows : List BufferRow} {start_points in_points : List BufferPoint}
    {gs : List Tree} → IsFilled start_rows start_points gs in_rows in_points
    → (length in_rows ≡ length start_rows) × (length in_points ≡ length start_points)
filled_lengths {start_rows = start_rows} {start_points = start_points} {gs = gs} f = (
  laid_length (array_rows gs) start_rows (sym (length-map (rows_of gs) row_in_c)) f.rows_are
      f.room.0,
  laid_length (array_points gs) start_points (sym (length-coordinates_of (row_points (rows_of gs))))
      f.points_are f.room.1,
)

pub within : {ends_at : List Tree → ℕ → Type 0} {start_rows in_rows : List BufferRow}
    {start_points in_points : List BufferPoint} {start_ends in_ends : List ℕ} {given later : List Tree}
    {taken : Taken} → HasTaken ends_at start_rows start_points start_ends given later in_rows in_points in_ends taken
    → IsWithin in_rows in_points taken
within {given = given} h =
    let lengths = filled_lengths h.filled in
    record {
      rows_fit = omega (arith, h.filled.room, h.rows_is, lengths);
      points_fit = omega (arith, h.filled.room, h.points_is, lengths);
      few = omega (arith, h.fit.done_is, h.rows_is, few_geometries given);
    }

-- the numbers of rows and points of all geometries that were read
pub needed : {ends_at : List Tree → ℕ → Type 0} {start_rows in_rows : List BufferRow}
    {start_points in_points : List BufferPoint} {start_ends in_ends : List ℕ} {given later : List Tree}
    {taken : Taken} → HasTaken ends_at start_rows start_points start_ends given later in_rows in_points in_ends taken
    → (saturated (taken.rows + taken.passed_rows) ≡ saturated (length (rows_of (given ++ later))))
    × (saturated (taken.points + taken.passed_points) ≡ saturated (length (row_points (rows_of (given ++ later)))))
needed {given = given} {later = later} h =
    let all : rows_of (given ++ later) ≡ rows_of given ++ rows_of later = flat_map-append (rows 0) given later in (
      omega (
        arith,
        h.rows_is,
        h.passed_rows_is,
        ap (λ (xs : List Row). length xs) all,
        length-append (rows_of given) (rows_of later),
      ),
      omega (
        arith,
        h.points_is,
        h.passed_points_is,
        ap (λ (xs : List Row). length (row_points xs)) all,
        ap (λ (xs : List Point). length xs) (row_points-append (rows_of given) (rows_of later)),
        length-append (row_points (rows_of given)) (row_points (rows_of later)),
      ),
    )

-- ---- what was taken

-- a geometry was passed that has this many rows and points
abbrev pub passed_with : Taken → ℕ → ℕ → Taken
passed_with t n m =
    record t {
      passed = saturated (t.passed + 1);
      passed_rows = saturated (t.passed_rows + n);
      passed_points = saturated (t.passed_points + m);
    }

-- one more geometry was read
module _ {ends_at : List Tree → ℕ → Type 0} {start_rows in_rows : List BufferRow}
    {start_points in_points : List BufferPoint} {start_ends in_ends : List ℕ} {given later : List Tree}
    {old : Taken}
    (h : HasTaken ends_at start_rows start_points start_ends given later in_rows in_points in_ends old)
    (g : Tree)
    {form : List Row} (same : rows 0 g ≡ form) where
  -- it was counted, and not taken
  pub not_taken : (0 < old.passed) ⊎ ((length in_rows < old.rows + length form)
      ⊎ ((length in_points < old.points + length (row_points form))
      ⊎ ((0 < length in_ends) × (length in_ends ≤ old.done))))
      → TakesOne ends_at start_rows start_points start_ends (given ++ later) g in_rows in_points in_ends
      (passed_with old (length form) (length (row_points form)))
  not_taken why =
      let lengths = filled_lengths h.filled in
      let rows_are = count_more given g form same in
      let points_are = point_count_more given g form same in
      let lack : (0 < old.passed) ⊎ LacksPlaces start_rows start_points start_ends (given ++ g ∷ []) = elim why [
        | inl some ↦ inl some
        | inr (inl few) ↦ inr (inl (inl (omega (arith, few, rows_are, lengths, h.rows_is))))
        | inr (inr (inl few)) ↦ inr (inl (inr (omega (arith, few, points_are, lengths, h.points_is))))
        | inr (inr (inr few)) ↦ inr (inr (lacks_end g old.done h.ends h.fit.done_is few))
      ] in (
        given,
        later ++ g ∷ [],
        sym (append_assoc given later (g ∷ [])),
        record {
          filled = h.filled;
          ends = h.ends;
          fit = passes g h.fit lack;
          rows_is = h.rows_is;
          points_is = h.points_is;
          bytes_is = h.bytes_is;
          passed_rows_is = omega (arith, h.passed_rows_is, count_more later g form same);
          passed_points_is = omega (arith, h.passed_points_is, point_count_more later g form same);
        },
      )

  -- it was taken
  pub taken_one : {new_rows : List BufferRow} {new_points : List BufferPoint} {new_ends : List ℕ} (end : ℕ)
      → old.passed ≡ 0 → old.rows + length form ≤ length in_rows
      → old.points + length (row_points form) ≤ length in_points → ends_at ((given ++ later) ++ g ∷ []) end
      → (length in_ends ≡ 0) ⊎ (old.done < length in_ends) → (length in_ends ≡ 0 → new_ends ≡ in_ends)
      → (old.done < length in_ends
      → new_ends ≡ take old.done in_ends ++ ((end ∷ []) ++ drop (old.done + 1) in_ends))
      → new_rows ≡ take old.rows in_rows ++ (rows_in_c form ++ drop (old.rows + length form)
      in_rows) → new_points ≡ take old.points in_points
      ++ (coordinates_of (row_points form) ++ drop (old.points + length (row_points form))
      in_points)
      → TakesOne ends_at start_rows start_points start_ends (given ++ later) g new_rows new_points new_ends
      (record old {
        done = old.done + 1;
        rows = old.rows + length form;
        points = old.points + length (row_points form);
        bytes = end;
      })
  taken_one end none rows_fit points_fit last end_room kept put rows_new points_new =
      let empty = none_later h.fit none in
      let at_end = subst (λ (gs : List Tree). ends_at gs end) (all_given given later g empty) last in
      let lengths = filled_lengths h.filled in
      let rows_are = count_more given g form same in
      let points_are = point_count_more given g form same in
      let were : in_rows ≡ array_rows given ++ drop old.rows start_rows = rw h.rows_is
      h.filled.rows_are in
      let points_were : in_points ≡ array_points given ++ drop old.points start_points =
      rw h.points_is h.filled.points_are in (
        given ++ g ∷ [],
        [],
        one_after given later g empty,
        record {
          filled = record {
            rows_are = laid_next start_rows (array_rows given) (rows_in_c form) (length form)
                (h.rows_is ∙ sym (length-map (rows_of given) row_in_c))
                (rows_are ∙ ap (λ (n : ℕ). n + length form) (sym h.rows_is)) were
                (ap rows_in_c (rows_of-more given g form same)
                ∙ map-append row_in_c (rows_of given) form) rows_new;
            points_are = laid_next start_points (array_points given)
                (coordinates_of (row_points form)) (length (row_points form))
                (h.points_is ∙ sym (length-coordinates_of (row_points (rows_of given))))
                (points_are ∙ ap (λ (n : ℕ). n + length (row_points form)) (sym h.points_is))
                points_were (ap coordinates_of (points_of-more given g form same)
                ∙ coordinates_of-append (row_points (rows_of given)) (row_points form)) points_new;
            room = (
              omega (arith, rows_fit, rows_are, h.rows_is, lengths),
              omega (arith, points_fit, points_are, h.points_is, lengths),
            );
          };
          ends = ends_next g old.done end h.ends at_end h.fit.done_is end_room kept put;
          fit = has_room g h.fit none;
          rows_is = omega (arith, rows_are, h.rows_is);
          points_is = omega (arith, points_are, h.points_is);
          bytes_is = at_end;
          passed_rows_is = omega (arith, h.passed_rows_is, ap (λ (l : List Tree). length (rows_of l)) empty);
          passed_points_is = omega (
            arith,
            h.passed_points_is,
            ap (λ (l : List Tree). length (row_points (rows_of l))) empty,
          );
        },
      )

-- ==== Arrays are those of one list of geometries, or of none if a row or points are refused.

-- the geometries that have the rows that were read
read_trees : (l : Allowance) (gs : List Tree) (begun : List Row) → AreValid l gs → AreValidRowsOfOne l begun
    → (hs : List Tree) × AreValid l hs × (rows_of hs ≡ rows_of gs ++ begun)
read_trees l gs [] valid one = (gs, valid, sym (append-nil (rows_of gs)))
read_trees l gs (r ∷ rs) valid one = (
  gs ++ one.0 ∷ [],
  all_push (IsValid l) gs one.0 valid one.1,
  rows_of-more gs one.0 (r ∷ rs) one.2,
)

-- arrays that begin with those that were read
begins_read : {l : Allowance} {hs : List Tree} {begun : List Row} {front_rows more : List BufferRow}
    {front_points ahead : List BufferPoint} (gs : List Tree) → IsAllowance l → AreValid l gs
    → AreRead l hs begun front_rows front_points → array_rows gs ≡ front_rows ++ more
    → array_points gs ≡ front_points ++ ahead → BeginsWith (rows_of gs) (rows_of hs ++ begun) more ahead
begins_read {l = l} {hs = hs} {begun = begun} {more = more} {ahead = ahead} gs cap valid read
    rows_are points_are =
    let ks = read_trees l hs begun read.valid read.begun_valid in
    begins_with (rows_of gs) (rows_of hs ++ begun) more ahead (plain_rows l gs cap valid)
    (subst ArePlain ks.2 (plain_rows l ks.0 cap ks.1))
    (rows_are ∙ ap (λ (xs : List BufferRow). xs ++ more) read.rows_are)
    (points_are ∙ ap (λ (xs : List BufferPoint). xs ++ ahead) read.points_are)

-- no rows have no rows in C's layout
no_rows : (rs : List Row) → [] ≡ rows_in_c rs → rs ≡ []
no_rows [] e = refl
no_rows (r ∷ rs) e = absurd (cc e)

-- arrays of geometries, of which none is open
none_open : {l : Allowance} {gs : List Tree} {in_rows : List BufferRow}
    {in_points : List BufferPoint} → AreArrays l gs in_rows in_points
    → AreRead l gs [] in_rows in_points
none_open {gs = gs} a = record {
  valid = a.valid;
  begun_valid = tt;
  rows_are = rw (append-nil (rows_of gs)) a.rows_are;
  points_are = rw (append-nil (rows_of gs)) a.points_are;
}

-- arrays are those of one list of geometries
pub one_arrays : {l : Allowance} {gs hs : List Tree} {in_rows : List BufferRow}
    {in_points : List BufferPoint} → IsAllowance l → AreArrays l gs in_rows in_points
    → AreArrays l hs in_rows in_points → hs ≡ gs
one_arrays {l = l} {gs = gs} {hs = hs} {in_rows = in_rows} {in_points = in_points} cap a b =
    let w = begins_read gs cap a.valid (none_open b) (sym a.rows_are ∙ sym (append-nil in_rows))
    (sym a.points_are ∙ sym (append-nil in_points)) in
    sym (one_reading gs hs (geometries l gs a.valid) (geometries l hs b.valid)
    (w.whole ∙ ap (λ (rs : List Row). (rows_of hs ++ []) ++ rs) (no_rows w.rest w.rows_are)
    ∙ simp append-nil))

-- no arrays of geometries have points that are left over
pub none_left : {l : Allowance} {gs hs : List Tree} {in_rows : List BufferRow}
    {in_points : List BufferPoint} {place number index : ℕ} → IsAllowance l
    → AreArrays l gs in_rows in_points → ArePointsLeft l hs in_rows in_points place number index → ⊥
none_left {gs = gs} {in_rows = in_rows} cap a b =
    let w = begins_read gs cap a.valid b.read (sym a.rows_are ∙ sym (append-nil in_rows))
    (sym a.points_are ∙ b.points_are) in
    let none : b.left ≡ [] = rw (no_rows w.rest w.rows_are) at w.points_are in
    omega (arith, b.some, ap (λ (xs : List BufferPoint). length xs) none)

-- a row that is refused after the rows of the open geometry is refused after all rows
refused_after_all : (l : Allowance) (hs : List Tree) (begun : List Row) (r : Row) (why : Refusal)
    → AreValidRowsOfOne l begun → (begun ≡ [] → (r.depth ≡ 0) ⊎ (rows_of hs ++ begun ≡ []))
    → refusal l begun r ≡ Some why → refusal l (rows_of hs ++ begun) r ≡ Some why
refused_after_all l hs [] r why valid first refuses = elim (first refl) [
  | inl root ↦ root_refusal l (rows_of hs ++ []) r root ∙ refuses
  | inr none ↦ ap (λ (rs : List Row). refusal l rs r) none ∙ refuses
]
refused_after_all l hs (s ∷ rs) r why valid first refuses =
    local_refusal l s rs (rows_of hs) r (valid.0, valid.1.tree, valid.2) ∙ refuses

-- rows of valid geometries have no row that is refused after those before it
no_refusal : (l : Allowance) (gs : List Tree) (rs more : List Row) (r : Row) (why : Refusal) → AreValid l gs
    → rows_of gs ≡ rs ++ r ∷ more → refusal l rs r ≡ Some why → ⊥
no_refusal l gs rs more r why valid is refuses =
    refused_begins_none l rs r more (λ accepted. some_none why (sym refuses
    ∙ accepted_unrefused l (reverse rs) r accepted))
    (gs, valid, is)
  where
    some_none : (why : Refusal) → Some why ≡ None → ⊥
    some_none why e = cc e

-- the first of rows of which there are some in C's layout
some_row : (row : BufferRow) (more : List BufferRow) (rs : List Row) → row ∷ more ≡ rows_in_c rs
    → (r : Row) × (rest : List Row) × (rs ≡ r ∷ rest) × (row ≡ row_in_c r)
some_row row more [] e = cc e
some_row row more (r ∷ rest) e = (r, rest, refl, head_same row (row_in_c r) more (rows_in_c rest) e)

-- no arrays of geometries have a row that is refused
pub none_refused : {l : Allowance} {gs hs : List Tree} {in_rows : List BufferRow}
    {in_points : List BufferPoint} {place number index : ℕ} → IsAllowance l
    → AreArrays l gs in_rows in_points → IsRefusedRow l hs in_rows in_points place number index → ⊥
none_refused {l = l} {gs = gs} {hs = hs} {number = number} cap a b =
    let w = begins_read gs cap a.valid b.read (sym a.rows_are ∙ b.rows_are) (sym a.points_are
    ∙ b.points_are) in
    let before = rows_of hs ++ b.begun in
    let (r, rest, rest_is, row_is) = some_row b.row b.more w.rest w.rows_are in
    let whole : rows_of gs ≡ before ++ r ∷ rest = w.whole
    ∙ ap (λ (rs : List Row). before ++ rs) rest_is in
    let ahead_is : b.ahead ≡ coordinates_of r.points ++ coordinates_of (row_points rest) =
    w.points_are ∙ ap (λ (rs : List Row). coordinates_of (row_points rs)) rest_is
    ∙ coordinates_of-append r.points (row_points rest) in
    let plain = all_apart IsPlain before (r ∷ rest)
    (subst ArePlain whole (plain_rows l gs cap a.valid)) in
    let why = refused_row l b.begun r (coordinates_of (row_points rest)) number plain.1.0
    (subst (λ (xs : List BufferPoint). RefusedAfter l b.begun (row_in_c r) xs number) ahead_is
    (subst (λ (x : BufferRow). RefusedAfter l b.begun x b.ahead number) row_is b.refused)) in
    let at_front : b.begun ≡ [] → (r.depth ≡ 0) ⊎ (before ≡ []) = λ none. elim (b.first none) [
      | inl root ↦ inl (sym (ap (λ (x : BufferRow). x.depth) row_is) ∙ root)
      | inr empty ↦ inr (no_rows before (sym empty ∙ b.read.rows_are))
    ] in
    no_refusal l gs before rest r why.0 a.valid whole
    (refused_after_all l hs b.begun r why.0 b.read.begun_valid at_front why.1)

-- ==== The tests of a row at its place after the rows of a form are those of a table's row.

-- rows of one geometry have open rows
rows_open : (rs : List Row) → AreRowsOfOne rs → (os : List OpenRow) × AreOpen (reverse rs) os
rows_open [] a = ([], open_none)
rows_open (r ∷ rest) a = open_rows (reverse (r ∷ rest)) (admitted_rows (r ∷ rest) (as_list r rest a))

-- a depth above n fails
far : (m n : ℕ) → n < m → nat_le m n ≡ false
far m n lt = grind (arith, nat_tests)

-- a row that is too deep is refused for its place
pub no_place : (l : Allowance) (rs : List Row) (r : Row) → AreValidRowsOfOne l rs
    → open_count (reverse rs) < r.depth → refusal l rs r ≡ Some BadPlace
no_place l rs r valid deep =
    let os = rows_open rs (of_one l rs valid) in
    stepless l (steps_to r.depth (reverse rs)) (parent r.depth (reverse rs))
    (first_child r.depth (reverse rs)) (length (geometry_rows r.depth (reverse rs)))
    (point_count (geometry_rows r.depth (reverse rs))) r
    (steps_open r.depth (reverse rs) os.0 os.1 ∙ far r.depth (length os.0) (omega (arith, os.1.all, deep)))

-- The place of a row at this depth is this one, by the open rows.
abbrev pub IsPlace : List Row → ℕ → RowPlace → Type 0
IsPlace rs d s = (os : List OpenRow) → AreOpen (reverse rs) os → (d ≤ length os)
    × (s ≡ row_place_at d os (length rs) (length (row_points rs)))

-- the tests of a row at its place give the reason to refuse it
pub refused_there : (l : Allowance) (rs : List Row) (s : RowPlace) (r : Row) → AreValidRowsOfOne l rs
    → IsPlace rs r.depth s → first_failed (checks_there l s r) ≡ refusal l rs r
refused_there l rs s r valid place =
    let one = of_one l rs valid in
    let os = rows_open rs one in
    let here = place os.0 os.1 in
    let since : since_root (reverse rs) ≡ reverse rs = one_since_root rs one in
    let count : length rs ≡ length (since_root (reverse rs)) = sym
    (ap (λ (xs : List Row). length xs) since ∙ length-reverse rs) in
    let held : length (row_points rs) ≡ point_count (since_root (reverse rs)) = length-row_points rs
    ∙ sym (ap point_count since ∙ point_count-reverse rs) in
    let near : true ≡ nat_le r.depth (length os.0) = sym (test_within r.depth (length os.0) here.0) in
    ap (λ (t : RowPlace). first_failed (checks_there l t r)) here.1
    ∙ ap (λ (b : Bool). first_failed (checks_under l b (row_of (open_parent r.depth os.0))
    (child_of (open_parent r.depth os.0)) (count_at r.depth (length rs))
    (count_at r.depth (length (row_points rs))) r)) near
    ∙ ap (λ (n : ℕ). open_refusal l os.0 n (length (row_points rs)) r) count
    ∙ ap (λ (n : ℕ). open_refusal l os.0 (length (since_root (reverse rs))) n r) held
    ∙ open_refused l (reverse rs) os.0 r os.1

-- points in range are no reason to refuse a row
in_range_none : (ps : List Point) → AreInRange ps → range_refusal ps ≡ None
in_range_none ps a = rw (are_in_range-true ps a) refl

-- points out of range are
out_of_range : (b : Bool) (ps : List Point) → are_in_range ps ≡ b → (AreInRange ps → ⊥)
    → range_refusal ps ≡ Some CoordinateRange
out_of_range true ps e out = absurd (out (points_in_range ps e))
out_of_range false ps e out = rw e refl

-- a row that passes all tests but that of the range is refused if a point is out of range
pub refused_range : (l : Allowance) (rs : List Row) (s : RowPlace) (r : Row) → AreValidRowsOfOne l rs
    → IsPlace rs r.depth s → first_failed (checks_there l s r) ≡ range_refusal r.points
    → (AreInRange r.points → ⊥) → refusal l rs r ≡ Some CoordinateRange
refused_range l rs s r valid place e out = sym (refused_there l rs s r valid place) ∙ e
    ∙ out_of_range (are_in_range r.points) r.points refl out

-- a row that may come first is a root
first_root : (d : ℕ) → steps_to d [] ≡ true → d ≡ 0
first_root zero e = refl
first_root (suc d) e = cc e

-- a root comes first, and any other row after it
one_root : (l : Allowance) (rs : List Row) (r : Row) → (r.depth ≡ 0 → rs ≡ []) → Accepts l (reverse rs) r
    → IsOneRoot rs r
one_root l [] r root a = first_root r.depth (both_true (steps_to r.depth [])
    (fits (parent r.depth []) (first_child r.depth []) r) a.admitted).0
one_root l (s ∷ rs) r root a = below r.depth (λ e. some s rs (root e))
  where
    some : (s : Row) (rs : List Row) → s ∷ rs ≡ [] → ⊥
    some s rs e = cc e

    below : (d : ℕ) → (d ≡ 0 → ⊥) → 0 < d
    below d other = omega (arith, other)

-- a row that passes all tests but that of the range continues the rows if its points are in range
pub continues_there : (l : Allowance) (rs : List Row) (s : RowPlace) (r : Row) → AreValidRowsOfOne l rs
    → IsPlace rs r.depth s → first_failed (checks_there l s r) ≡ range_refusal r.points
    → AreInRange r.points → (r.depth ≡ 0 → rs ≡ []) → Continues l rs r
continues_there l rs s r valid place e in_range root =
    let unrefused : refusal l rs r ≡ None = sym (refused_there l rs s r valid place) ∙ e
    ∙ in_range_none r.points in_range in
    let accepts = accepts_unrefused l (reverse rs) r unrefused in (accepts, one_root l rs r root accepts)

-- what holds of each reason holds of that of a refusal
pub all_refused : (P Q : ℕ → Type 0) (why : Stop ℕ) → ((number : ℕ) → P number → Q number) → IfRefused P why
    → IfRefused Q why
all_refused P Q stop.Memory f h = tt
all_refused P Q (stop.Refused number) f h = f number h

-- such a row is accepted, and the rows with it are those of one geometry
pub row_pushed : (l : Allowance) (rs new : List Row) (row : BufferRow) (ahead : List BufferPoint) (k : Kind)
    (r : Row) → AreValidRowsOfOne l rs → kind_number k ≡ row.kind → HasRightId row → row.points ≤ length ahead
    → row_from_c k row (take row.points ahead) ≡ r → Continues l rs (row_from_c k row (take row.points ahead))
    → new ≡ rs ++ r ∷ []
    → (s : Row) × (new ≡ rs ++ s ∷ []) × AcceptedAfter l rs row ahead s × AreValidRowsOfOne l new
row_pushed l rs new row ahead k r valid kind right enough is next pushed =
    let s = row_from_c k row (take row.points ahead) in
    let added : new ≡ rs ++ s ∷ [] = pushed ∙ ap (λ (t : Row). rs ++ t ∷ []) (sym is) in (
      s,
      added,
      (k, kind, right, enough, refl, next.0),
      subst (AreValidRowsOfOne l) (sym added) (continued l rs s valid next),
    )

-- ==== The row of a point or of a linestring that is a whole geometry, and its blob.

-- the first of at least one
first_is : (ahead : List BufferPoint) (blank c : BufferPoint) → 0 < length ahead → c ≡ get_or ahead 0 blank
    → take 1 ahead ≡ c ∷ []
first_is [] blank c some e = absurd (omega (arith, some))
first_is (d ∷ ahead) blank c some e = ap (λ (x : BufferPoint). x ∷ []) (sym e)

-- the first of the points ahead, if it is in range, is the point of such a row
pub begins_point : (l : Allowance) (row : BufferRow) (ahead : List BufferPoint) (blank : BufferPoint)
    (o : Option Point) → BeginsAlone l row ahead → row.kind ≡ 1 → row.points ≡ 1 → IfSome o IsInRange
    → IfSome o (λ p. coordinates_at p ≡ get_or ahead 0 blank) → IfSome o (BeginsPoint l row ahead)
begins_point l row ahead blank None alone kind one in_range first = tt
begins_point l row ahead blank (Some p) alone kind one in_range first = record {
  alone = alone;
  is_point = kind;
  has_one = one;
  first = first_is ahead blank (coordinates_at p) (omega (arith, one, alone.enough)) first;
  in_range = in_range;
}

no_id : (flag : ℕ) (id : ℤ) → flag ≡ 0 → (if flag == 0 then None else Some id) ≡ None
no_id flag id e = rw e refl

has_precision : (n : ℤ) → IsPrecision n → (if is_no_precision n then None else Some n) ≡ Some n
has_precision (pos n) h = refl
has_precision (negsuc n) h = grind (arith, ints, nat_tests)

-- the row of a geometry, of this kind and with these points, that such a row stands for
root_row : (l : Allowance) (row : BufferRow) (ahead : List BufferPoint) (k : Kind) (ps : List Point)
    → BeginsAlone l row ahead → points_of (take row.points ahead) ≡ ps
    → row_from_c k row (take row.points ahead) ≡ whole_row 0 k None row.precision ps
root_row l row ahead k ps b own = same_row (whole_row 0 k None row.precision ps) _ _ _ _ _ b.is_root
    refl (no_id row.has_id row.id b.has_no_id) (has_precision row.precision b.has_precision) own

-- the row of a point with a precision may come first, if the limits allow one row and one point
pub point_first : (l : Allowance) (n : ℤ) (p : Point) → 0 < l.nodes → 0 < l.points → IsPrecision n → IsInRange p
    → Continues l [] (whole_row 0 kind.Point None n (p ∷ []))
point_first l n p nodes points h in_range = (
  record {
    admitted = rw (is_precision-true n h) refl;
    nest = refl;
    nodes = nodes;
    in_range = (in_range, tt);
    points = omega (arith, points);
  },
  refl,
)

line_fits : (ps : List Point) → points_fit kind.Linestring true ps ≡ true
line_fits [] = refl
line_fits (p ∷ ps) = refl

-- the row of a linestring with a precision may come first, if the limits allow one row and its points
line_first : (l : Allowance) (n : ℤ) (ps : List Point) → 0 < l.nodes → length ps ≤ l.points → IsPrecision n
    → AreInRange ps → Continues l [] (whole_row 0 kind.Linestring None n ps)
line_first l n ps nodes points h in_range = (
  record {
    admitted = rw (is_precision-true n h) (line_fits ps);
    nest = refl;
    nodes = nodes;
    in_range = in_range;
    points = omega (arith, points);
  },
  refl,
)

-- the blob of a geometry was made, whose only row is such a row
root_made : (l : Allowance) (style : Style) (row : BufferRow) (ahead : List BufferPoint) (k : Kind) (ps : List Point)
    (g : Tree) (count : ℕ) (blob : List ℕ) → BeginsAlone l row ahead → kind_number k ≡ row.kind
    → points_of (take row.points ahead) ≡ ps → Continues l [] (whole_row 0 k None row.precision ps)
    → IsTree g → rows 0 g ≡ whole_row 0 k None row.precision ps ∷ [] → count ≡ row.points
    → blob ≡ canonical_blob style g → IsMadeAlone l style row ahead count blob
root_made l style row ahead k ps g count blob b kind own first tree same count_is blob_is =
    let r = whole_row 0 k None row.precision ps in
    let is = root_row l row ahead k ps b own in
    let pushed = row_pushed l [] (r ∷ []) row ahead k r tt kind (inr (b.has_no_id, b.id_is)) b.enough is
    (subst (Continues l []) (sym is) first) refl in
    let one = pushed.3 in
    record {
      is_root = b.is_root;
      geometry = one.0;
      valid = one.1;
      only_row = pushed.0;
      row_is = one.2 ∙ pushed.1;
      accepted = pushed.2;
      count_is = count_is;
      blob_is = blob_is ∙ ap (canonical_blob style) (one_geometry g one.0 tree one.1.tree (same ∙ sym one.2));
    }

-- the blob of the point that such a row begins was made
pub point_made : (l : Allowance) (style : Style) (row : BufferRow) (ahead : List BufferPoint) (p : Point) (n : ℤ)
    (blob : List ℕ) → BeginsPoint l row ahead p → n ≡ row.precision
    → (IsPrecision n → blob ≡ canonical_blob style (one_point n p)) → IsMadeAlone l style row ahead 1 blob
point_made l style row ahead p n blob b same made =
    let own : points_of (take row.points ahead) ≡ p ∷ [] = ap (λ (m : ℕ). points_of (take m ahead)) b.has_one
    ∙ ap points_of b.first in
    let precise = b.alone.has_precision in
    root_made l style row ahead kind.Point (p ∷ []) (one_point row.precision p) 1 blob b.alone (sym b.is_point) own
    (point_first l row.precision p b.alone.nodes_left (omega (arith, b.has_one, b.alone.points_left)) precise
    b.in_range) (precise, tt) refl (sym b.has_one)
    (subst (λ (m : ℤ). IsPrecision m → blob ≡ canonical_blob style (one_point m p)) same made precise)

-- the points of a linestring that the limits allow
few_points : (l : Allowance) (row : BufferRow) (ahead : List BufferPoint) → BeginsAlone l row ahead
    → length (points_of (take row.points ahead)) ≤ l.points
few_points l row ahead b = omega (
  arith,
  b.points_left,
  length-map (take row.points ahead) point_of,
  length-take-le row.points ahead b.enough,
)

-- the blob of the linestring that such a row begins was made
pub line_made : (l : Allowance) (style : Style) (row : BufferRow) (ahead : List BufferPoint) (n : ℤ)
    (blob : List ℕ) → BeginsLine l row ahead → n ≡ row.precision
    → are_in_range (points_of (take row.points ahead)) ≡ true
    → (IsPrecision n → blob ≡ canonical_blob style (one_line n (points_of (take row.points ahead))))
    → IsMadeAlone l style row ahead row.points blob
line_made l style row ahead n blob b same in_range made =
    let ps = points_of (take row.points ahead) in
    let precise = b.alone.has_precision in
    root_made l style row ahead kind.Linestring ps (one_line row.precision ps) row.points blob b.alone
    (sym b.is_line) refl
    (line_first l row.precision ps b.alone.nodes_left (few_points l row ahead b.alone) precise
    (points_in_range ps in_range)) (precise, tt) refl refl
    (subst (λ (m : ℤ). IsPrecision m → blob ≡ canonical_blob style (one_line m ps)) same made precise)

-- a precision fits 8 bits
precision_fits : (n : ℤ) → IsPrecision n → SFits w8 n
precision_fits n h = grind (arith, common_steps)

-- a precision that was passed as 8 bits is the same
pub precision_passed : (n : ℤ) → IsPrecision n → to_z w8 (of_z w8 n) ≡ n
precision_passed n h = to_z-of_z w8 n (precision_fits n h)
