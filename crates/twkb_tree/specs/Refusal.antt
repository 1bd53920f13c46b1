-- The reason to refuse a row: the first test that it fails, in the order of the table's reasons
-- (profile).
use Rattle.std.specs.Prelude.{ℕ, ◌+◌, Bool, true, false, ◌&&◌, ◌||◌, is_none}
use Rattle.std.specs.Prelude.{nat_lt, nat_le, ℤ, pos, negsuc, List, [], ◌∷◌, ◌++◌, length, Option}
use Rattle.std.specs.Prelude.{Some, None, reverse, ◌==◌, if◌then◌else◌}
use Rattle.twkb_points.specs.declared.point.TheConstants.{COORDINATE_BOUND}
use Rattle.twkb_points.specs.Point.{Point}
use Rattle.twkb_tree.specs.declared.kind.Kind.{Kind}
use Rattle.twkb_tree.specs.Limits.{Allowance}
use Rattle.twkb_tree.specs.Rows.{Row}
use Rattle.twkb_tree.specs.Admits.{parent, first_child, steps_to, has_place, id_in_range, id_allowed, has_same_ids}
use Rattle.twkb_tree.specs.Admits.{precision_in_range, is_geometry, has_needed_precision, precision_allowed}
use Rattle.twkb_tree.specs.Admits.{has_points, points_fit, nest_kept, geometry_rows, point_count}
use Rattle.twkb_tree.specs.declared.row_checks.Refusal.{Refusal}
use Rattle.twkb_tree.specs.declared.row_checks.Refusal.TheVariants.{BadPlace, TooDeep, TooManyNodes, BadId}
use Rattle.twkb_tree.specs.declared.row_checks.Refusal.TheVariants.{IdNotAllowed, MixedIds, BadPrecision}
use Rattle.twkb_tree.specs.declared.row_checks.Refusal.TheVariants.{PrecisionMissing, PrecisionNotAllowed}
use Rattle.twkb_tree.specs.declared.row_checks.Refusal.TheVariants.{PointsNotAllowed, CoordinateRange, TooManyPoints}
use Rattle.twkb_tree.specs.declared.row_checks.Refusal.TheVariants.{PointCount}

-- a coordinate is below the bound and not below its negative
abbrev pub is_coordinate : ℤ → Bool
is_coordinate (pos n) = nat_lt n COORDINATE_BOUND
is_coordinate (negsuc n) = nat_lt n COORDINATE_BOUND

-- each coordinate of the points is in range
abbrev pub are_in_range : List Point → Bool
are_in_range [] = true
are_in_range (p ∷ ps) = (is_coordinate p.x && is_coordinate p.y) && are_in_range ps

-- the list of points is empty
abbrev pub has_none : List Point → Bool
has_none [] = true
has_none (p ∷ ps) = false

-- a test, and the reason to refuse a row that fails it
pub record Check : Type 0 where
  pub holds : Bool
  pub otherwise : Refusal

-- makes a check from a test and a reason
abbrev pub check : Bool → Refusal → Check
check holds otherwise = record { holds = holds; otherwise = otherwise }

-- the tests of a kind at this depth under this parent, given whether that is not too deep, and the
-- rows of its geometry so far
abbrev pub place_checks : Allowance → Bool → Option Row → ℕ → ℕ → Kind → List Check
place_checks l steps p nodes depth k =
    check (steps && has_place p k) BadPlace
    ∷ check (nest_kept l p depth) TooDeep
    ∷ check (nat_lt nodes l.nodes) TooManyNodes
    ∷ []

-- the tests of a row's id under this parent, given the parent's first child
abbrev pub id_checks : Option Row → Option Row → Row → List Check
id_checks p f r = check (id_in_range r.id) BadId ∷ check (id_allowed p r.kind r.id) IdNotAllowed
    ∷ check (has_same_ids f r.id) MixedIds ∷ []

-- the tests of a row's precision under this parent
abbrev pub precision_checks : Option Row → Row → List Check
precision_checks p r =
    check (precision_in_range r.precision) BadPrecision
    ∷ check (has_needed_precision p r.precision) PrecisionMissing
    ∷ check (precision_allowed p r.precision) PrecisionNotAllowed
    ∷ []

-- the tests of the number of a row's points under this parent
abbrev pub count_checks : Option Row → Row → List Check
count_checks p r = check (points_fit r.kind (is_geometry p) r.points) PointCount ∷ []

-- the tests of a row's points under this parent, in a geometry that has `points` points so far
abbrev pub point_checks : Allowance → Option Row → ℕ → Row → List Check
point_checks l p points r =
    check (has_points r.kind || has_none r.points) PointsNotAllowed
    ∷ check (are_in_range r.points) CoordinateRange
    ∷ check (nat_le (points + length r.points) l.points) TooManyPoints
    ∷ count_checks p r

-- all tests of a row in order, from its parent and first child, whether it is not too deep, and
-- the rows and points of its geometry so far
abbrev pub checks_under : Allowance → Bool → Option Row → Option Row → ℕ → ℕ → Row → List Check
checks_under l steps p f nodes points r =
    place_checks l steps p nodes r.depth r.kind
    ++ (id_checks p f r ++ (precision_checks p r ++ point_checks l p points r))

-- the tests of a row at this depth after the rows so far, last one first
abbrev pub checks_at : Allowance → ℕ → List Row → Row → List Check
checks_at l d before r =
    checks_under l (steps_to d before) (parent d before) (first_child d before)
    (length (geometry_rows d before)) (point_count (geometry_rows d before)) r

-- the reason of the first test that fails
abbrev pub first_failed : List Check → Option Refusal
first_failed [] = None
first_failed (c ∷ cs) = if c.holds then first_failed cs else Some c.otherwise

-- the reason to refuse a row after the rows so far, last one first; None if it is not refused
abbrev pub refusal_after : Allowance → List Row → Row → Option Refusal
refusal_after l before r = first_failed (checks_at l r.depth before r)

-- the reason to refuse a row after the rows so far, in their order
abbrev pub refusal : Allowance → List Row → Row → Option Refusal
refusal l rs r = refusal_after l (reverse rs) r

-- the row may come next
abbrev pub accepts : Allowance → List Row → Row → Bool
accepts l rs r = is_none (refusal l rs r)

-- the row is a root exactly if it is the first
abbrev pub is_one_root : List Row → Row → Bool
is_one_root [] r = r.depth == 0
is_one_root (s ∷ rs) r = nat_lt 0 r.depth

-- the row may come next, and belongs to the same geometry
abbrev pub continues : Allowance → List Row → Row → Bool
continues l rs r = accepts l rs r && is_one_root rs r
