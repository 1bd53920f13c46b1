-- Rows and points of geometries in arrays, as far as there is room, and the tests of a row.
use borrow.Rule.Slice.PartMut.{put_mid}
use Rattle.std.proofs.Common.{◌≡◌, ◌<◌, ℕ, suc, true, List, [], ◌∷◌, length, ap, refl, arith, get_or, zero, ◌+◌, ◌-◌}
use Rattle.std.proofs.Common.{◌≤◌, ◌++◌, take, drop, sym, ◌∙◌, length-append, append_assoc, ℤ, pos, negsuc, eqb}
use Rattle.std.proofs.Common.{if◌then◌else◌, Bool, false, inl, inr, ◌^◌, subst, bit_or, slice_index_or}
use Rattle.std.specs.Prelude.{slice_get, Some, slice_set, Option, None, IfSome, ◌==◌, ◌↔◌, nat_lt}
use Rattle.std.proofs.lemmas.List.{take-append-drop, map-append, append-nil, take_more, take_more_set, length-set}
use Rattle.std.proofs.lemmas.List.{take_at, drop-drop, drop_at, length-take-le, length-drop, take_rest}
use Rattle.std.proofs.Math.Seq.{take-add}
use Rattle.std.proofs.lemmas.Option.{slice_get_within, get_or_from_slice_get}
use Rattle.std.proofs.lemmas.Slice.{take-put_mid}
use Rattle.std.proofs.lemmas.Grind.{flat_map-append}
use Rattle.std.proofs.lemmas.Bool.{eqb-true, cases_Bool, false≢true}
use Rattle.std.proofs.lemmas.Int.{ints}
use Rattle.twkb_points.specs.Point.{Point, AreInRange, IsInRange}
use Rattle.twkb_tree.specs.Refusal.{are_in_range, refusal, Check, check, first_failed}
use Rattle.twkb_tree.specs.declared.row_checks.Refusal.{Refusal}
use Rattle.twkb_tree.specs.Rows.{Row, row_points}
use Rattle.twkb_tree.specs.Tree.{IsPrecision, Tree}
use Rattle.twkb_tree.specs.Limits.{Allowance}
use Rattle.twkb_tree.specs.declared.kind.Kind.{Kind}
use Rattle.twkb_tree.specs.declared.kind.Kind.TheVariants as kind
use Rattle.twkb_tree.proofs.RowForest.{points_in_range, are_in_range-true}
use Rattle.twkb_table.proofs.FieldLemmas.{ArePlain, IsPlain, head_same, tail_same}
use Rattle.twkb_buffer.specs.Polylines.{coordinates_of, coordinates_at}
use Rattle.twkb_buffer.specs.declared.point.BufferPoint.{BufferPoint}
use Rattle.twkb_buffer.proofs.RunLemmas.{coordinates_of-append}
use Rattle.twkb_arrays.specs.Rows.{point_of, points_of, row_in_c, rows_in_c, id_flag, id_number, kind_number}
use Rattle.twkb_arrays.specs.Rows.{precision_number}
use Rattle.twkb_arrays.specs.declared.row.BufferRow.{BufferRow}
use Rattle.twkb_arrays.specs.JudgedRow.{HasRightId, RefusedAfter, is_no_precision, row_from_c, AreBelow}
use Rattle.std.specs.Simd.Lanes.{zip2}
use Rattle.std.proofs.lemmas.Bool.Decides.{nat_tests}
use Rattle.std.proofs.Math.Nat.{lt_of_le_of_lt}
use Rattle.std.proofs.lemmas.Nat.{le_or_l, le_or_r, or_lt}
use Rattle.std.proofs.lemmas.Simd.{length-zip2}
use Rattle.twkb_tree.specs.declared.row_checks.Refusal.TheVariants.{PointsNotAllowed, CoordinateRange, TooManyPoints}
use Rattle.twkb_tree.specs.declared.row_checks.Refusal.TheVariants.{PointCount}
use Rattle.twkb_arrays.specs.SentBlobs.{are_more}

-- ==== The points of a row, all in range.

-- the points with the coordinates of points are these
pub points_of-coordinates_of : (ps : List Point) → points_of (coordinates_of ps) ≡ ps
points_of-coordinates_of [] = refl
points_of-coordinates_of (p ∷ ps) = ap (λ (qs : List Point). p ∷ qs) (points_of-coordinates_of ps)

-- a point of points in range is in range
one_of : (own : List BufferPoint) (i : ℕ) (d : BufferPoint) → i < length (points_of own) → AreInRange (points_of own)
    → IsInRange (point_of (get_or own i d))
one_of [] i d within in_range = absurd (omega (arith, within))
one_of (c ∷ own) zero d within in_range = in_range.0
one_of (c ∷ own) (suc i) d within in_range = one_of own i d (omega (arith, within)) in_range.1

-- a point of points that pass the test is in range
pub one_in_range : (own : List BufferPoint) (i : ℕ) (d : BufferPoint) → i < length (points_of own)
    → are_in_range (points_of own) ≡ true → IsInRange (point_of (get_or own i d))
one_in_range own i d within in_range = one_of own i d within (points_in_range (points_of own) in_range)

-- ==== Rows and points that are written into arrays one after another.

pub length-coordinates_of : (ps : List Point) → length (coordinates_of ps) ≡ length ps
length-coordinates_of [] = refl
length-coordinates_of (p ∷ ps) = omega (arith, length-coordinates_of ps)

pub row_points-append : (rs more : List Row) → row_points (rs ++ more) ≡ row_points rs ++ row_points more
row_points-append rs more = flat_map-append (λ (r : Row). r.points) rs more

-- the first points are written, and the next one is
pub point_written : (own : List Point) (i : ℕ) (p : Point) (in_points : List BufferPoint) → i < length own
    → length in_points ≡ length own → take i in_points ≡ coordinates_of (take i own)
    → take (i + 1) own ≡ take i own ++ p ∷ []
    → take (i + 1) (slice_set in_points i (coordinates_at p)) ≡ coordinates_of (take (i + 1) own)
point_written own i p in_points within as_many so_far next =
    take_more_set in_points i (coordinates_at p) (omega arith)
    ∙ ap (λ (xs : List BufferPoint). xs ++ coordinates_at p ∷ []) so_far
    ∙ sym (coordinates_of-append (take i own) (p ∷ []))
    ∙ ap coordinates_of (sym next)

-- The first rows, with all their points, are at the start of two arrays as long as all rows and all
-- points.
pub record IsWritten (rs : List Row) (count first : ℕ) (in_rows : List BufferRow)
    (in_points : List BufferPoint) : Type 0 where
  pub as_many_rows : length in_rows ≡ length rs
  pub as_many_points : length in_points ≡ length (row_points rs)
  pub rows_are : take count in_rows ≡ rows_in_c (take count rs)
  pub first_is : first ≡ length (row_points (take count rs))
  pub points_are : take first in_points ≡ coordinates_of (row_points (take count rs))

-- the rows up to a place and the row there
next_rows : (rs : List Row) (i : ℕ) (r : Row) → slice_get rs i ≡ Some r → take (i + 1) rs ≡ take i rs ++ r ∷ []
next_rows rs i r is = take_more rs i r (slice_get_within rs i r is)
    ∙ ap (λ (x : Row). take i rs ++ x ∷ []) (get_or_from_slice_get rs i r r is)

-- their points
next_points : (rs : List Row) (i : ℕ) (r : Row) → slice_get rs i ≡ Some r
    → row_points (take (i + 1) rs) ≡ row_points (take i rs) ++ r.points
next_points rs i r is = ap row_points (next_rows rs i r is) ∙ row_points-append (take i rs) (r ∷ [])
    ∙ ap (λ (xs : List Point). row_points (take i rs) ++ xs) (append-nil r.points)

-- the first rows have no more points than all
few_points : (rs : List Row) (n : ℕ) → length (row_points (take n rs)) ≤ length (row_points rs)
few_points rs n = omega (
  arith,
  length-append (row_points (take n rs)) (row_points (drop n rs)),
  ap (λ (xs : List Row). length (row_points xs)) (take-append-drop n rs),
  ap (λ (xs : List Point). length xs) (row_points-append (take n rs) (drop n rs)),
)

-- the points of the next row are within the array
pub points_left : {rs : List Row} {i first : ℕ} {in_rows : List BufferRow}
    {in_points : List BufferPoint} {r : Row} → IsWritten rs i first in_rows in_points
    → slice_get rs i ≡ Some r → first + length r.points ≤ length in_points
points_left {rs = rs} {i = i} {r = r} w is = omega (
  arith,
  w.first_is,
  w.as_many_points,
  few_points rs (i + 1),
  length-append (row_points (take i rs)) r.points,
  ap (λ (xs : List Point). length xs) (next_points rs i r is),
)

-- the next row and its points are written
pub written_more : {rs : List Row} {i first : ℕ} {in_rows : List BufferRow}
    {in_points own : List BufferPoint} {r : Row} {row : BufferRow} (k : ℕ)
    → IsWritten rs i first in_rows in_points → slice_get rs i ≡ Some r → row ≡ row_in_c r
    → own ≡ coordinates_of r.points → k ≡ length r.points → IsWritten rs (i + 1)
    (first + length r.points) (slice_set in_rows i row) (put_mid first k in_points own)
written_more {rs = rs} {i = i} {first = first} {in_rows = in_rows} {in_points = in_points}
    {own = own} {r = r}
    {row = row} k w is row_is own_is count =
    let within = slice_get_within rs i r is in
    let fits = points_left w is in
    let own_len : length own ≡ length r.points = ap (λ (xs : List BufferPoint). length xs) own_is
    ∙ length-coordinates_of r.points in
    let taken : take (first + length r.points) (put_mid first k in_points own) ≡ take first in_points ++ own =
    take-put_mid first k in_points own (first + length r.points) (omega arith) (omega arith) in
    let all : length (put_mid first k in_points own) ≡ length in_points = put_len first k in_points own
    (omega arith) (omega arith) in
    record {
      as_many_rows = length-set in_rows i row ∙ w.as_many_rows;
      as_many_points = all ∙ w.as_many_points;
      rows_are = rw (next_rows rs i r is)
          (take_more_set in_rows i row (omega (arith, w.as_many_rows))
          ∙ rw (w.rows_are, row_is) (sym (map-append row_in_c (take i rs) (r ∷ []))));
      first_is = rw (next_points rs i r is, w.first_is)
          (sym (length-append (row_points (take i rs)) r.points));
      points_are = rw (next_points rs i r is) (taken
          ∙ rw (w.points_are, own_is)
          (sym (coordinates_of-append (row_points (take i rs)) r.points)));
    }
  where
    put_len : (a n : ℕ) (xs ys : List BufferPoint) → length ys ≡ n → a + n ≤ length xs
        → length (put_mid a n xs ys) ≡ length xs
    put_len a n xs ys same inside = omega (
      arith,
      length-append (take a xs) (ys ++ drop n (drop a xs)),
      length-append ys (drop n (drop a xs)),
      length-take-le a xs (omega arith),
      length-drop n (drop a xs),
      length-drop a xs,
    )

-- what is written after what was written
pub laid_next : {X : Type 0} {k n : ℕ} {now all new : List X} (old done more : List X) (m : ℕ)
    → k ≡ length done → n ≡ k + m → now ≡ done ++ drop k old → all ≡ done ++ more
    → new ≡ take k now ++ (more ++ drop (k + m) now) → new ≡ all ++ drop n old
laid_next {k = k} {now = now} old done more m long count is all_is new_is =
    let front : take k now ≡ done = ap (λ l. take k l) is
    ∙ take_at done (drop k old) k (sym long) in
    let after : drop (k + m) now ≡ drop (k + m) old =
    sym (drop-drop m k now) ∙ ap (λ l. drop m (drop k l)) is
    ∙ ap (λ l. drop m l) (drop_at done (drop k old) k (sym long)) ∙ drop-drop m k old in
    rw (all_is, count)
    (new_is ∙ rw (front, after) (sym (append_assoc done more (drop (k + m) old))))

-- what is written at the start of a list leaves its length
pub laid_length : {X : Type 0} {n : ℕ} {now : List X} (done old : List X) → n ≡ length done
    → now ≡ done ++ drop n old → n ≤ length old → length now ≡ length old
laid_length {n = n} done old long is room = omega (
  arith,
  ap (λ l. length l) is,
  length-append done (drop n old),
  length-drop n old,
)

-- ---- the parts of a list

-- what is after a place, as the code cuts it
abbrev pub rest_of : {X : Type 0} → List X → ℕ → List X
rest_of xs used = take (length xs - used) (drop used xs)

-- a list up to a place, and what is after it
pub parts_join : {X : Type 0} (xs : List X) (used : ℕ) → take used xs ++ rest_of xs used ≡ xs
parts_join xs used = ap (λ l. take used xs ++ l) (take_rest xs used) ∙ take-append-drop used xs

-- a list up to a place, and the first of what is after it
pub some_more : {X : Type 0} (xs : List X) (used more : ℕ)
    → take used xs ++ take more (rest_of xs used) ≡ take (used + more) xs
some_more xs used more = ap (λ l. take used xs ++ take more l) (take_rest xs used)
    ∙ sym (take-add used more xs)

pub length-rest_of : {X : Type 0} (xs : List X) (used : ℕ) → length (rest_of xs used) ≡ length xs - used
length-rest_of xs used = ap (λ l. length l) (take_rest xs used) ∙ length-drop used xs

-- ==== Rows and points in C's layout determine the rows of geometries.

-- ---- one row

-- the kind with a number
abbrev kind_at : ℕ → Kind
kind_at n =
    if eqb n 1 then kind.Point else if eqb n 2 then kind.Linestring else if eqb n 3 then kind.Polygon
    else if eqb n 4 then kind.MultiPoint else if eqb n 5 then kind.MultiLinestring
    else if eqb n 6 then kind.MultiPolygon else if eqb n 7 then kind.Collection else kind.Ring

kind_back : (k : Kind) → kind_at (kind_number k) ≡ k
kind_back kind.Point = refl
kind_back _ = refl

one_kind : (k j : Kind) → kind_number k ≡ kind_number j → k ≡ j
one_kind k j same = sym (kind_back k) ∙ ap kind_at same ∙ kind_back j

one_id : (a b : Option ℤ) → id_flag a ≡ id_flag b → id_number a ≡ id_number b → a ≡ b
one_id None None flags ids = refl
one_id (Some a) (Some b) flags ids = ap (λ (n : ℤ). Some n) ids
one_id _ _ flags ids = absurd (omega (arith, flags))

-- no precision is -128
never : (n : ℤ) → IsPrecision n → n ≡ negsuc 127 → ⊥
never (pos n) p e = cc e
never (negsuc n) p e = grind (arith, ints, p.0, e)

one_precision : (a b : Option ℤ) → IfSome a IsPrecision → IfSome b IsPrecision
    → precision_number a ≡ precision_number b → a ≡ b
one_precision None None p q e = refl
one_precision None (Some b) p q e = absurd (never b q (sym e))
one_precision (Some a) None p q e = absurd (never a p e)
one_precision (Some a) (Some b) p q e = ap (λ (n : ℤ). Some n) e

-- a row with the fields of another is that row
pub same_row : (r : Row) (depth : ℕ) (k : Kind) (id precision : Option ℤ) (points : List Point)
    → depth ≡ r.depth → k ≡ r.kind → id ≡ r.id → precision ≡ r.precision → points ≡ r.points
    → record { depth = depth; kind = k; id = id; precision = precision; points = points } ≡ r
same_row r depth k id precision points depths kinds ids precisions points_are =
    rw (depths, kinds, ids, precisions, points_are) refl

one_row : (r s : Row) → IsPlain r → IsPlain s → row_in_c r ≡ row_in_c s → r.points ≡ s.points → r ≡ s
one_row r s p q e same_points =
    same_row s _ _ _ _ _ (ap (λ (x : BufferRow). x.depth) e)
    (one_kind r.kind s.kind (ap (λ (x : BufferRow). x.kind) e))
    (one_id r.id s.id (ap (λ (x : BufferRow). x.has_id) e) (ap (λ (x : BufferRow). x.id) e))
    (one_precision r.precision s.precision p.precision q.precision (ap (λ (x : BufferRow). x.precision) e))
    same_points

-- ---- a row of an array that is a row in C's layout

id_in : (o : Option ℤ) → (if id_flag o == 0 then None else Some (id_number o)) ≡ o
id_in None = refl
id_in (Some id) = refl

right_in : (r : Row) (o : Option ℤ) → o ≡ r.id → HasRightId (row_in_c r)
right_in r None is = inr (ap id_flag (sym is), ap id_number (sym is))
right_in r (Some id) is = inl (ap id_flag (sym is))

precision_in : (o : Option ℤ) → IfSome o IsPrecision
    → (if is_no_precision (precision_number o) then None else Some (precision_number o)) ≡ o
precision_in (Some (negsuc n)) p = by_test n (n == 127) refl p
  where
    by_test : (n : ℕ) (b : Bool) → (n == 127) ≡ b → IsPrecision (negsuc n)
        → (if b then None else Some (negsuc n)) ≡ Some (negsuc n)
    by_test n true is p = absurd (never (negsuc n) p (ap negsuc (eqb-true n 127 is)))
    by_test n false is p = refl
precision_in _ p = refl

-- a row in C's layout stands for the row itself
row_from : (r : Row) (k : Kind) (own : List BufferPoint) → IsPlain r → kind_number k ≡ kind_number r.kind
    → own ≡ coordinates_of r.points → row_from_c k (row_in_c r) own ≡ r
row_from r k own p kinds is =
    same_row r _ _ _ _ _ refl (one_kind k r.kind kinds) (id_in r.id)
    (precision_in r.precision p.precision) (ap points_of is ∙ points_of-coordinates_of r.points)

-- if a row in C's layout is refused, with its points ahead, so is the row
pub refused_row : (l : Allowance) (begun : List Row) (r : Row) (points : List BufferPoint) (number : ℕ) → IsPlain r
    → RefusedAfter l begun (row_in_c r) (coordinates_of r.points ++ points) number
    → (why : Refusal) × (refusal l begun r ≡ Some why)
refused_row l begun r points number p (inl none) = absurd (none.0 r.kind refl)
refused_row l begun r points number p (inr (k, kinds, inl wrong)) = absurd (wrong.0 (right_in r r.id refl))
refused_row l begun r points number p (inr (k, kinds, inr (right, inl few))) = absurd (
    let lacks = few.0 in
    omega (arith, lacks, length-append (coordinates_of r.points) points, length-coordinates_of r.points)
    )
refused_row l begun r points number p (inr (k, kinds, inr (right, inr (enough, (why, refuses, is))))) = (
  why,
  ap (λ (x : Row). refusal l begun x) (sym (row_from r k
      (take (length r.points) (coordinates_of r.points ++ points)) p kinds
      (take_at (coordinates_of r.points) points (length r.points) (length-coordinates_of r.points))))
      ∙ refuses,
)

-- ---- lists

-- lists that begin with as many places, and are equal
apart : {X : Type 0} (xs ys us vs : List X) → xs ++ ys ≡ us ++ vs → length xs ≡ length us → (xs ≡ us) × (ys ≡ vs)
apart xs ys us vs e same = (
  sym (take_at xs ys (length xs) refl) ∙ ap (λ l. take (length xs) l) e ∙ take_at us vs (length xs) (sym same),
  sym (drop_at xs ys (length xs) refl) ∙ ap (λ l. drop (length xs) l) e ∙ drop_at us vs (length xs) (sym same),
)

-- points are determined by their coordinates
one_points : (ps qs : List Point) → coordinates_of ps ≡ coordinates_of qs → ps ≡ qs
one_points ps qs e = sym (points_of-coordinates_of ps) ∙ ap points_of e ∙ points_of-coordinates_of qs

-- The first rows of rows are others, whose points are the first points.
pub record BeginsWith (rs ss : List Row) (more : List BufferRow) (ahead : List BufferPoint) : Type 0 where
  pub rest : List Row
  pub whole : rs ≡ ss ++ rest
  pub rows_are : more ≡ rows_in_c rest
  pub points_are : ahead ≡ coordinates_of (row_points rest)

-- arrays that begin with those of some rows are those of rows that begin with these
pub begins_with : (rs ss : List Row) (more : List BufferRow) (ahead : List BufferPoint) → ArePlain rs → ArePlain ss
    → rows_in_c rs ≡ rows_in_c ss ++ more → coordinates_of (row_points rs) ≡ coordinates_of (row_points ss) ++ ahead
    → BeginsWith rs ss more ahead
begins_with rs [] more ahead p q e f = record { rest = rs; whole = refl; rows_are = sym e; points_are = sym f }
begins_with [] (s ∷ ss) more ahead p q e f = absurd (cc e)
begins_with (r ∷ rs) (s ∷ ss) more ahead p q e f =
    let head : row_in_c r ≡ row_in_c s = head_same (row_in_c r) (row_in_c s) (rows_in_c rs) (rows_in_c ss ++ more) e in
    let tail : rows_in_c rs ≡ rows_in_c ss ++ more =
    tail_same (row_in_c r) (row_in_c s) (rows_in_c rs) (rows_in_c ss ++ more) e in
    let count : length (coordinates_of r.points) ≡ length (coordinates_of s.points) =
    length-coordinates_of r.points ∙ ap (λ (x : BufferRow). x.points) head ∙ sym (length-coordinates_of s.points) in
    let both = apart (coordinates_of r.points) (coordinates_of (row_points rs)) (coordinates_of s.points)
    (coordinates_of (row_points ss) ++ ahead)
    (sym (coordinates_of-append r.points (row_points rs)) ∙ f
    ∙ ap (λ (xs : List BufferPoint). xs ++ ahead) (coordinates_of-append s.points (row_points ss))
    ∙ append_assoc (coordinates_of s.points) (coordinates_of (row_points ss)) ahead)
    count in
    let same : r ≡ s = one_row r s p.0 q.0 head (one_points r.points s.points both.0) in
    let b = begins_with rs ss more ahead p.1 q.1 tail both.1 in
    record {
      rest = b.rest;
      whole = ap (λ (x : Row). x ∷ rs) same ∙ ap (λ (xs : List Row). s ∷ xs) b.whole;
      rows_are = b.rows_are;
      points_are = b.points_are;
    }

-- ==== The reason of the first test of a row that fails.

-- ---- the tests of a row's points

-- the tests of a row's points, by their answers
abbrev tests : Bool → Bool → Bool → Bool → List Check
tests allowed in_range room fit =
    check allowed PointsNotAllowed ∷ check in_range CoordinateRange ∷ check room TooManyPoints
    ∷ check fit PointCount ∷ []

-- if no other test fails, only the range may refuse the points
pub by_range : (allowed in_range room fit : Bool)
    → None ≡ first_failed (tests allowed true room fit)
    → first_failed (tests allowed in_range room fit) ≡ (if in_range then None else Some
    CoordinateRange)
by_range true true room fit e = sym e
by_range true false room fit e = refl
by_range false in_range room fit e = cc e

-- a row without points is refused for having them before their range is tested
pub not_allowed : (allowed in_range room fit : Bool)
    → Some PointsNotAllowed ≡ first_failed (tests allowed true room fit)
    → first_failed (tests allowed in_range room fit) ≡ Some PointsNotAllowed
not_allowed false in_range room fit e = refl
not_allowed true in_range true true e = cc e
not_allowed true in_range true false e = cc e
not_allowed true in_range false fit e = cc e

-- a point out of range is a reason before the number of points
pub range_first : (allowed room fit : Bool) (why : Refusal) → (why ≡ PointsNotAllowed → ⊥)
    → Some why ≡ first_failed (tests allowed true room fit)
    → first_failed (tests allowed false room fit) ≡ Some CoordinateRange
range_first true room fit why other e = refl
range_first false room fit why other e = absurd (other (cc e))

-- ---- the range of coordinates

-- two lists of as many numbers, joined by `or`, are below 2^63 if and only if both are
both_below : (xs ys : List ℕ) → length xs ≡ length ys → AreBelow (zip2 bit_or xs ys) ↔ (AreBelow xs × AreBelow ys)
both_below [] [] same = (λ below. (tt, tt), λ both. tt)
both_below (x ∷ xs) (y ∷ ys) same =
    let more = both_below xs ys (omega (arith, same)) in (
      λ below.
          let rest = more.0 below.1 in (
            (lt_of_le_of_lt (le_or_l x y) below.0, rest.0),
            (lt_of_le_of_lt (le_or_r x y) below.0, rest.1),
          ),
      λ both. (or_lt 63 x y both.0.0 both.1.0, more.1 (both.0.1, both.1.1)),
    )
both_below _ _ same = absurd (omega (arith, same))

-- Numbers of the points looked at so far are joined by `or`, those of x and those of y. The points are
-- in range if and only if what is joined is below 2^63 and the points left are in range.
pub record Decides (own left : List BufferPoint) (joined : List ℕ) : Type 0 where
  pub two : length joined ≡ 2
  pub if_below : AreBelow joined → AreInRange (points_of left) → AreInRange (points_of own)
  pub is_below : AreInRange (points_of own) → AreBelow joined × AreInRange (points_of left)

-- the numbers of one more point are joined
pub decides_more : (own left after : List BufferPoint) (c : BufferPoint) (joined numbers : List ℕ)
    → Decides own left joined → left ≡ c ∷ after → length numbers ≡ 2 → AreBelow numbers ↔ IsInRange (point_of c)
    → Decides own after (zip2 bit_or joined numbers)
decides_more own left after c joined numbers so_far next two numbers_are =
    let same = so_far.two ∙ sym two in
    let both = both_below joined numbers same in record {
      two = length-zip2 bit_or joined numbers same ∙ so_far.two;
      if_below = λ below in_range. so_far.if_below (both.0 below).0
          (subst (λ (cs : List BufferPoint). AreInRange (points_of cs)) (sym next)
          (numbers_are.0 (both.0 below).1, in_range));
      is_below = λ in_range.
          let so_far_in = so_far.is_below in_range in
          let left_in = subst (λ (cs : List BufferPoint). AreInRange (points_of cs)) next so_far_in.1 in
          (both.1 (so_far_in.0, numbers_are.1 left_in.0), left_in.1);
    }

decided_by : (own left : List BufferPoint) (x y : ℕ) → Decides own left (x ∷ y ∷ []) → left ≡ []
    → nat_lt (bit_or x y) (2 ^ 63) ≡ are_in_range (points_of own)
decided_by own left x y all none = elim (cases_Bool (nat_lt (bit_or x y) (2 ^ 63))) [
  | inl below ↦
      let less : bit_or x y < 2 ^ 63 = grind (arith, nat_tests) in
      below ∙ sym (are_in_range-true (points_of own) (all.if_below
      (lt_of_le_of_lt (le_or_l x y) less, (lt_of_le_of_lt (le_or_r x y) less, tt))
      (subst (λ (cs : List BufferPoint). AreInRange (points_of cs)) (sym none) tt)))
  | inr above ↦ elim (cases_Bool (are_in_range (points_of own))) [
    | inl in_range ↦
        let below = (all.is_below (points_in_range (points_of own) in_range)).0 in
        let less = or_lt 63 x y below.0 below.1.0 in
        absurd (grind (arith, nat_tests))
    | inr out ↦ above ∙ sym out
  ]
]

-- once all points are looked at, what is joined decides
pub decided : (own left : List BufferPoint) (joined : List ℕ) → Decides own left joined → left ≡ []
    → nat_lt (bit_or (slice_index_or joined 0 0) (slice_index_or joined 1 0)) (2 ^ 63)
    ≡ are_in_range (points_of own)
decided own left (x ∷ y ∷ []) all none = decided_by own left x y all none
decided own left _ all none = absurd (omega (arith, all.two))

-- ==== The geometries for which there was room, and those after them.

pub no_more : (later : List Tree) → are_more later ≡ false → later ≡ []
no_more [] e = refl
no_more (x ∷ xs) e = absurd (false≢true (sym e))

-- one more geometry after others, all of which had room
pub one_after : (given later : List Tree) (g : Tree) → later ≡ []
    → (given ++ g ∷ []) ++ [] ≡ (given ++ later) ++ g ∷ []
one_after given later g none = rw none (simp append-nil)
