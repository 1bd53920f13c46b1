-- The row of a geometry that a row of an array stands for, and the reason to refuse it (profile).
use Rattle.std.specs.Prelude.{◌≡◌, ℕ, ◌+◌, ◌<◌, ◌≤◌, ◌==◌, ◌⊎◌, ℤ, pos, negsuc, List, length, take, reverse, Option}
use Rattle.std.specs.Prelude.{Some, None, Bool, false, if◌then◌else◌, ⊤, [], ◌∷◌, ◌^◌, MatchOption}
use Rattle.twkb_tree.specs.declared.kind.Kind.{Kind}
use Rattle.twkb_tree.specs.Admits.{Accepts}
use Rattle.twkb_tree.specs.Limits.{Allowance, IsValid}
use Rattle.twkb_tree.specs.Refusal.{are_in_range, refusal, Check, first_failed}
use Rattle.twkb_tree.specs.declared.row_checks.Refusal.{Refusal}
use Rattle.twkb_tree.specs.declared.row_checks.Refusal.TheVariants.{CoordinateRange}
use Rattle.twkb_tree.specs.Rows.{Row, rows}
use Rattle.twkb_table.specs.Judged.{rule_reason}
use Rattle.twkb_buffer.specs.Numbers.{row_number_of}
use Rattle.twkb_buffer.specs.declared.point.BufferPoint.{BufferPoint}
use Rattle.twkb_arrays.specs.Rows.{kind_number, point_of, points_of}
use Rattle.twkb_arrays.specs.declared.row.BufferRow.{BufferRow}
use Rattle.twkb_points.specs.Point.{Point, IsInRange, AreInRange}
use Rattle.twkb_tree.specs.declared.row_place.RowPlace.{RowPlace}
use Rattle.twkb_tree.specs.Open.{row_checks}
use Rattle.twkb_table.specs.declared.reason.RowReason.{RowReason}
use Rattle.twkb_tree.specs.Tree.{Tree, IsPrecision}
use Rattle.twkb_grammar.specs.Written.{canonical_blob}
use Rattle.twkb_grammar.specs.declared.style.Style.{Style}
use Rattle.twkb_buffer.specs.Polylines.{coordinates_at}

-- ==== The row of a geometry that a row of an array stands for, and the reason to refuse it
-- (profile).

-- the id of a row, if it has one
abbrev pub id_of : BufferRow → Option ℤ
id_of row = if row.has_id == 0 then None else Some row.id

-- whether the number stands for no precision
abbrev pub is_no_precision : ℤ → Bool
is_no_precision (pos n) = false
is_no_precision (negsuc n) = n == 127

-- the precision of a row, if it has one
abbrev pub precision_of : BufferRow → Option ℤ
precision_of row = if is_no_precision row.precision then None else Some row.precision

-- the row of a geometry that a row of an array stands for, given its kind and its points
abbrev pub row_from_c : Kind → BufferRow → List BufferPoint → Row
row_from_c k row own = record {
  depth = row.depth;
  kind = k;
  id = id_of row;
  precision = precision_of row;
  points = points_of own;
}

-- the row's kind is the number of no kind
abbrev pub HasNoKind : BufferRow → Type 0
HasNoKind row = (k : Kind) → kind_number k ≡ row.kind → ⊥

-- the row has an id and says so, or it has none and the place of the id is 0
abbrev pub HasRightId : BufferRow → Type 0
HasRightId row = (row.has_id ≡ 1) ⊎ ((row.has_id ≡ 0) × (row.id ≡ pos 0))

-- the number of a reason to refuse a row of a geometry
abbrev pub refusal_number : Refusal → ℕ
refusal_number why = row_number_of (rule_reason why)

-- After these rows of one geometry the row is refused for the reason with this number: its kind, its
-- id, the number of its points, of which the array has only those ahead, or else as a row of a table.
abbrev pub RefusedAfter : Allowance → List Row → BufferRow → List BufferPoint → ℕ → Type 0
RefusedAfter l rs row ahead number =
    (HasNoKind row × (number ≡ 4))
    ⊎ ((k : Kind) × (kind_number k ≡ row.kind)
    × ((((HasRightId row → ⊥) × (number ≡ 8))
    ⊎ (HasRightId row
    × (((length ahead < row.points) × (number ≡ 71))
    ⊎ ((row.points ≤ length ahead)
    × ((why : Refusal) × (refusal l rs (row_from_c k row (take row.points ahead)) ≡ Some why)
    × (number ≡ refusal_number why))))))))

-- how many points in range a list begins with
abbrev pub in_range_front : List BufferPoint → ℕ
in_range_front [] = 0
in_range_front (p ∷ ps) = if are_in_range (point_of p ∷ []) then in_range_front ps + 1 else 0

-- the index of the first point out of range in a row that is refused for the reason with this number,
-- given the points from its first one on; 0 if the reason is another
abbrev pub index_outside : ℕ → List BufferPoint → ℕ
index_outside number ahead = if number == refusal_number CoordinateRange then in_range_front ahead else 0

-- after these rows of one geometry the row, with its points of those ahead, is this row of a geometry,
-- and may come next
abbrev pub AcceptedAfter : Allowance → List Row → BufferRow → List BufferPoint → Row → Type 0
AcceptedAfter l rs row ahead r =
    (k : Kind) × (kind_number k ≡ row.kind) × HasRightId row × (row.points ≤ length ahead)
    × (r ≡ row_from_c k row (take row.points ahead)) × Accepts l (reverse rs) r

-- each of the numbers is below 2^63
abbrev pub AreBelow : List ℕ → Type 0
AreBelow [] = ⊤
AreBelow (n ∷ ns) = (n < 2 ^ 63) × AreBelow ns

-- ==== The tests of a row at its place, and the reason of the first that fails.

-- all tests of a row at its place
abbrev pub checks_there : Allowance → RowPlace → Row → List Check
checks_there l s r = row_checks (are_in_range r.points) l s r

-- a test failed, and the reason is its own
abbrev pub IsReasonOf : Option Refusal → RowReason → Type 0
IsReasonOf failed reason = (why : Refusal) × (failed ≡ Some why) × (reason ≡ rule_reason why)

-- the reason to refuse a row with these points of which all else is right
abbrev pub range_refusal : List Point → Option Refusal
range_refusal ps = if are_in_range ps then None else Some CoordinateRange

-- the reason of the first test that fails, if one fails besides that of the points' range
abbrev pub IsFirstButRange : List Check → List Point → Option RowReason → Type 0
IsFirstButRange checks ps answer =
    MatchOption answer (first_failed checks ≡ range_refusal ps) (IsReasonOf (first_failed checks))

-- ==== A row that is a whole geometry, and its blob.

-- The row is a root with a precision and no id, its points are among those ahead, and the limits allow it.
pub record BeginsAlone (l : Allowance) (row : BufferRow) (ahead : List BufferPoint) : Type 0 where
  pub is_root : row.depth ≡ 0
  pub has_no_id : row.has_id ≡ 0
  pub id_is : row.id ≡ pos 0
  pub has_precision : IsPrecision row.precision
  pub enough : row.points ≤ length ahead
  pub nodes_left : 0 < l.nodes
  pub points_left : row.points ≤ l.points

-- Such a row is that of a point with its one point: this one, the first of those ahead.
pub record BeginsPoint (l : Allowance) (row : BufferRow) (ahead : List BufferPoint) (p : Point) : Type 0 where
  pub alone : BeginsAlone l row ahead
  pub is_point : row.kind ≡ 1
  pub has_one : row.points ≡ 1
  pub first : take 1 ahead ≡ coordinates_at p ∷ []
  pub in_range : IsInRange p

-- Such a row is that of a linestring.
pub record BeginsLine (l : Allowance) (row : BufferRow) (ahead : List BufferPoint) : Type 0 where
  pub alone : BeginsAlone l row ahead
  pub is_line : row.kind ≡ 2

-- The row is that of a valid geometry with this many of the points ahead, and these are the bytes of its blob.
pub record IsMadeAlone (l : Allowance) (style : Style) (row : BufferRow) (ahead : List BufferPoint)
    (count : ℕ) (blob : List ℕ) : Type 0 where
  pub is_root : row.depth ≡ 0
  pub geometry : Tree
  pub valid : IsValid l geometry
  pub only_row : Row
  pub row_is : rows 0 geometry ≡ only_row ∷ []
  pub accepted : AcceptedAfter l [] row ahead only_row
  pub count_is : count ≡ row.points
  pub blob_is : blob ≡ canonical_blob style geometry

-- the first of the rows is a root
abbrev pub BeginWithRoot : List BufferRow → Type 0
BeginWithRoot [] = ⊥
BeginWithRoot (row ∷ more) = row.depth ≡ 0

-- The first of the rows ahead is a whole geometry, since a root comes after it, and these are the
-- bytes of its blob.
pub record IsMadeFirst (l : Allowance) (style : Style) (rows_ahead : List BufferRow) (ahead : List BufferPoint)
    (count : ℕ) (blob : List ℕ) : Type 0 where
  pub row : BufferRow
  pub more : List BufferRow
  pub rows_are : rows_ahead ≡ row ∷ more
  pub whole : BeginWithRoot more
  pub made : IsMadeAlone l style row ahead count blob

-- ==== The points of a row that are appended to a form.

-- a point is out of range, and the number is that of this reason
abbrev pub AreOutOfRange : List Point → ℕ → Type 0
AreOutOfRange ps number = (AreInRange ps → ⊥) × (number ≡ refusal_number CoordinateRange)
