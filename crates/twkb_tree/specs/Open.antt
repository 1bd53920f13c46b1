-- The open rows, which decide the place of the next row, and the tests of a row there.
use Rattle.std.specs.Prelude.{◌≡◌, ℕ, zero, suc, pos, List, [], ◌∷◌, length, Option, Some, None, Bool, true, false}
use Rattle.std.specs.Prelude.{◌&&◌, ◌==◌, is_some, is_none, nat_le, nat_lt, ⊤, ◌+◌, ℤ, ◌||◌, ◌++◌}
use Rattle.twkb_tree.specs.declared.kind.Kind.{Kind}
use Rattle.twkb_tree.specs.declared.open_rows.OpenRow.{OpenRow}
use Rattle.twkb_tree.specs.Rows.{Row}
use Rattle.twkb_tree.specs.Limits.{Allowance}
use Rattle.twkb_tree.specs.Admits.{last_at, first_below, has_points}
use Rattle.twkb_tree.specs.Refusal.{checks_under, first_failed, Check, check, has_none, place_checks, id_checks}
use Rattle.twkb_tree.specs.Refusal.{precision_checks, count_checks}
use Rattle.twkb_tree.specs.declared.row_checks.Refusal.{Refusal}
use Rattle.twkb_points.specs.Point.{Point}
use Rattle.twkb_tree.specs.declared.row_place.RowPlace.{RowPlace}
use Rattle.twkb_tree.specs.declared.row_checks.Refusal.TheVariants.{PointsNotAllowed, CoordinateRange, TooManyPoints}

-- ==== The open rows: what a reader keeps of the rows so far, the root first, and the test of a row
-- by them.

-- whether the row has an id, if there is a row
abbrev pub ids_by : Option Row → Option Bool
ids_by None = None
ids_by (Some f) = Some (is_some f.id)

-- the open row holds the kind of the last row at a depth, and whether that row's first child has an
-- id
abbrev pub IsOpenAt : ℕ → List Row → OpenRow → Type 0
IsOpenAt d before o = (r : Row) × (last_at d before ≡ Some r) × (o.kind ≡ r.kind)
    × (o.child_ids ≡ ids_by (first_below d before))

-- these are the open rows of the last rows at this depth and at each deeper one
abbrev pub AreOpenFrom : ℕ → List Row → List OpenRow → Type 0
AreOpenFrom d before [] = ⊤
AreOpenFrom d before (o ∷ os) = IsOpenAt d before o × AreOpenFrom (suc d) before os

-- the number of open rows: one for each depth, down to that of the last row
abbrev pub open_count : List Row → ℕ
open_count [] = 0
open_count (r ∷ before) = suc r.depth

-- these are the open rows of the rows so far, last one first
pub record AreOpen (before : List Row) (os : List OpenRow) : Type 0 where
  pub each : AreOpenFrom 0 before os
  pub all : length os ≡ open_count before

-- the first answer, if there is one; otherwise the new one
abbrev pub first_answer : Option Bool → Bool → Option Bool
first_answer None b = Some b
first_answer (Some a) b = Some a

-- the open rows after one more row at this depth: those above its parent, its parent with one
-- more child, and the row
abbrev pub opened : ℕ → List OpenRow → Row → List OpenRow
opened zero os r = record { kind = r.kind; child_ids = None } ∷ []
opened (suc d) [] r = []
opened (suc zero) (o ∷ os) r = record {
  kind = o.kind;
  child_ids = first_answer o.child_ids (is_some r.id);
}
    ∷ record { kind = r.kind; child_ids = None } ∷ []
opened (suc (suc d)) (o ∷ os) r = o ∷ opened (suc d) os r

-- ---- the test of a row by the open rows

-- the open row that is the parent of a row at this depth; a root has none
abbrev pub open_parent : ℕ → List OpenRow → Option OpenRow
open_parent d [] = None
open_parent zero (o ∷ os) = None
open_parent (suc zero) (o ∷ os) = Some o
open_parent (suc (suc d)) (o ∷ os) = open_parent (suc d) os

-- a row of the open row's kind, for tests that look at nothing but its kind
abbrev pub row_of : Option OpenRow → Option Row
row_of None = None
row_of (Some o) = Some (record { depth = 0; kind = o.kind; id = None; precision = None; points = [] })

-- a row with an id or without, for tests that look at nothing but its id
abbrev pub child_by : Option Bool → Option Row
child_by None = None
child_by (Some true) = Some (record { depth = 0; kind = Kind.Point; id = Some (pos 0); precision = None; points = [] })
child_by (Some false) = Some (record { depth = 0; kind = Kind.Point; id = None; precision = None; points = [] })

-- the first child of an open row, if there is such a row
abbrev pub child_of : Option OpenRow → Option Row
child_of None = None
child_of (Some o) = child_by o.child_ids

-- a count from the last root on, for a row at this depth: it is 0 for a root
abbrev pub count_at : ℕ → ℕ → ℕ
count_at zero n = 0
count_at (suc d) n = n

-- the reason to refuse a row at this depth, by the open rows and the counts of rows and points
-- from the last root on
abbrev pub open_refusal_at : Allowance → ℕ → List OpenRow → ℕ → ℕ → Row → Option Refusal
open_refusal_at l d os nodes points r =
    first_failed (checks_under l (nat_le d (length os)) (row_of (open_parent d os))
    (child_of (open_parent d os)) (count_at d nodes) (count_at d points) r)

-- the reason to refuse a row at the depth that it names
abbrev pub open_refusal : Allowance → List OpenRow → ℕ → ℕ → Row → Option Refusal
open_refusal l os nodes points r = open_refusal_at l r.depth os nodes points r

-- the row is a root exactly if no row is open
abbrev pub is_next : List OpenRow → Row → Bool
is_next [] r = r.depth == 0
is_next (o ∷ os) r = nat_lt 0 r.depth

-- the row may come next after one geometry's rows, with these counts, and belongs to that geometry
abbrev pub open_continues : Allowance → List OpenRow → ℕ → ℕ → Row → Bool
open_continues l os nodes points r = is_none (open_refusal l os nodes points r) && is_next os r

-- ==== The place of the next row, by the open rows, and the tests of a row there.

-- the place of a row at this depth, from the open rows and the counts of rows and points since
-- the last root
abbrev pub row_place_at : ℕ → List OpenRow → ℕ → ℕ → RowPlace
row_place_at depth rows nodes points = record {
  depth = depth;
  parent = open_parent depth rows;
  nodes = count_at depth nodes;
  points = count_at depth points;
}

-- the row with these fields at this place, whose depth it has
abbrev pub row_there : RowPlace → Kind → Option ℤ → Option ℤ → List Point → Row
row_there s k id precision points = record {
  depth = s.depth;
  kind = k;
  id = id;
  precision = precision;
  points = points;
}

-- the tests of a row's place, its id and its precision
abbrev pub field_checks : Allowance → RowPlace → Row → List Check
field_checks l s r =
    place_checks l true (row_of s.parent) s.nodes s.depth r.kind
    ++ (id_checks (row_of s.parent) (child_of s.parent) r ++ precision_checks (row_of s.parent) r)

-- the tests of a row's points at its place, given whether their coordinates are in range
abbrev pub points_checks : Bool → Allowance → RowPlace → Row → List Check
points_checks in_range l s r =
    check (has_points r.kind || has_none r.points) PointsNotAllowed
    ∷ check in_range CoordinateRange
    ∷ check (nat_le (s.points + length r.points) l.points) TooManyPoints
    ∷ count_checks (row_of s.parent) r

-- all tests of a row at its place, in order, given whether the coordinates of its points are in
-- range
abbrev pub row_checks : Bool → Allowance → RowPlace → Row → List Check
row_checks in_range l s r = field_checks l s r ++ points_checks in_range l s r
