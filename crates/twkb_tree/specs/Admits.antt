-- When a row may come after the rows so far (profile).
use Rattle.std.specs.Prelude.{◌≡◌, ℕ, zero, suc, ◌^◌, ℤ, pos, negsuc, List, [], ◌∷◌, Option, Some, None, Bool, true}
use Rattle.std.specs.Prelude.{false, not, ◌&&◌, ◌||◌, ◌==◌, nat_le, nat_lt, if◌then◌else◌, reverse, is_some, is_none}
use Rattle.std.specs.Prelude.{⊤, ◌+◌, ◌<◌, ◌≤◌, length}
use Rattle.twkb_points.specs.Point.{Point, AreInRange}
use Rattle.twkb_tree.specs.declared.kind.Kind.{Kind}
use Rattle.twkb_tree.specs.declared.kind.Kind.TheVariants as kind
use Rattle.twkb_tree.specs.Rows.{Row}
use Rattle.twkb_tree.specs.Limits.{Allowance}

-- ==== When a row may come after the rows so far, by all rules of the table but its limits
-- (profile).

-- ---- the rows so far, last one first, are called "before"

-- the last row at a depth
abbrev pub last_at : ℕ → List Row → Option Row
last_at d [] = None
last_at d (r ∷ before) = if r.depth == d then Some r else last_at d before

-- the first option if it has a row, otherwise the second
abbrev pub or_else : Option Row → Option Row → Option Row
or_else None other = other
or_else (Some r) other = Some r

-- the first row one level deeper after the last row at a depth
abbrev pub first_below : ℕ → List Row → Option Row
first_below d [] = None
first_below d (r ∷ before) =
    if r.depth == d then None else or_else (first_below d before) (if r.depth == suc d then Some r else None)

-- the parent of a row at this depth; a root has none
abbrev pub parent : ℕ → List Row → Option Row
parent zero before = None
parent (suc d) before = last_at d before

-- the first child of the parent of a row at this depth
abbrev pub first_child : ℕ → List Row → Option Row
first_child zero before = None
first_child (suc d) before = first_below d before

-- a row at this depth is a root, or at most one level below the last row
abbrev pub steps_to : ℕ → List Row → Bool
steps_to zero before = true
steps_to (suc d) [] = false
steps_to (suc d) (r ∷ before) = nat_le d r.depth

-- ---- kinds

-- a row of the first kind may have a child of the second (the table of parents and children)
abbrev pub may_have : Kind → Kind → Bool
may_have kind.Polygon kind.Ring = true
may_have kind.MultiPoint kind.Point = true
may_have kind.MultiLinestring kind.Linestring = true
may_have kind.MultiPolygon kind.Polygon = true
may_have kind.Collection kind.Ring = false
may_have kind.Collection _ = true
may_have _ _ = false

-- the kind is the ring's
abbrev pub is_ring : Kind → Bool
is_ring kind.Ring = true
is_ring _ = false

-- the kind is the point's
abbrev pub is_point : Kind → Bool
is_point kind.Point = true
is_point _ = false

-- rows of the kind hold points themselves
abbrev pub has_points : Kind → Bool
has_points kind.Point = true
has_points kind.Linestring = true
has_points kind.Ring = true
has_points _ = false

-- the kind is the collection's
abbrev pub is_collection : Kind → Bool
is_collection kind.Collection = true
is_collection _ = false

-- ---- what a row must be under its parent

-- a row under this parent is a geometry itself: a root, or a member of a collection
abbrev pub is_geometry : Option Row → Bool
is_geometry None = true
is_geometry (Some p) = is_collection p.kind

-- a root is not a ring, and another row has a kind that its parent may have
abbrev pub has_place : Option Row → Kind → Bool
has_place None k = not (is_ring k)
has_place (Some p) k = may_have p.kind k

-- an id is from -2 ^ 63 to 2 ^ 63 - 1
abbrev pub is_id : ℤ → Bool
is_id (pos n) = nat_lt n (2 ^ 63)
is_id (negsuc n) = nat_lt n (2 ^ 63)

-- an id is in range, if there is one
abbrev pub id_in_range : Option ℤ → Bool
id_in_range None = true
id_in_range (Some n) = is_id n

-- there is no id on a root or a ring
abbrev pub id_allowed : Option Row → Kind → Option ℤ → Bool
id_allowed None k id = is_none id
id_allowed (Some p) k id = not (is_ring k) || is_none id

-- the row has an id exactly if the first child has one; if there is no first child, both are
-- allowed
abbrev pub has_same_ids : Option Row → Option ℤ → Bool
has_same_ids None id = true
has_same_ids (Some f) id = if is_some f.id then is_some id else is_none id

-- a precision is from -8 to 7
abbrev pub is_precision : ℤ → Bool
is_precision (pos n) = nat_lt n 8
is_precision (negsuc n) = nat_lt n 8

-- a precision is in range, if there is one
abbrev pub precision_in_range : Option ℤ → Bool
precision_in_range None = true
precision_in_range (Some n) = is_precision n

-- a geometry itself has a precision, and no other row has one
abbrev pub precision_fits : Option Row → Option ℤ → Bool
precision_fits p precision = if is_geometry p then is_some precision else is_none precision

-- a row that is a geometry itself has a precision
abbrev pub has_needed_precision : Option Row → Option ℤ → Bool
has_needed_precision None precision = is_some precision
has_needed_precision (Some p) precision = not (is_collection p.kind) || is_some precision

-- a row that is not a geometry itself has no precision
abbrev pub precision_allowed : Option Row → Option ℤ → Bool
precision_allowed None precision = true
precision_allowed (Some p) precision = is_collection p.kind || is_none precision

-- a row has a number of points that its kind allows; a point that is part of a geometry has one
abbrev pub points_fit : Kind → Bool → List Point → Bool
points_fit k whole [] = whole || not (is_point k)
points_fit kind.Point whole (p ∷ []) = true
points_fit kind.Point whole (p ∷ q ∷ ps) = false
points_fit kind.Linestring whole (p ∷ ps) = true
points_fit kind.Ring whole (p ∷ ps) = true
points_fit k whole (p ∷ ps) = false

-- the row fits under this parent, whose first child is given if there is one
abbrev pub fits : Option Row → Option Row → Row → Bool
fits p f r =
    has_place p r.kind && id_in_range r.id && id_allowed p r.kind r.id && has_same_ids f r.id
    && precision_in_range r.precision && precision_fits p r.precision && points_fit r.kind (is_geometry p) r.points

-- ---- the row may come next

-- the row may come after the rows so far, last one first
abbrev pub admits_after : List Row → Row → Bool
admits_after before r = steps_to r.depth before && fits (parent r.depth before) (first_child r.depth before) r

-- the row may come after the rows so far, in their order
abbrev pub admits : List Row → Row → Bool
admits rs r = admits_after (reverse rs) r

-- each row, last one first, may come after those before it
abbrev pub IsAdmitted : List Row → Type 0
IsAdmitted [] = ⊤
IsAdmitted (r ∷ before) = (admits_after before r ≡ true) × IsAdmitted before

-- ==== When a row may come after the rows so far, within the limits (profile).

-- a row under this parent is a member of a collection
abbrev pub is_member : Option Row → Bool
is_member None = false
is_member (Some p) = is_collection p.kind

-- a member is not at a depth above `nest`
abbrev pub nest_kept : Allowance → Option Row → ℕ → Bool
nest_kept l p d = if is_member p then nat_le d l.nest else true

-- the rows, last one first, back to the last root
abbrev pub since_root : List Row → List Row
since_root [] = []
since_root (r ∷ before) = if r.depth == 0 then r ∷ [] else r ∷ since_root before

-- the rows so far of the geometry that a row at this depth belongs to
abbrev pub geometry_rows : ℕ → List Row → List Row
geometry_rows zero before = []
geometry_rows (suc d) before = since_root before

-- the sum of a number over rows
abbrev pub weight : (Row → ℕ) → List Row → ℕ
weight w [] = 0
weight w (r ∷ rs) = w r + weight w rs

-- the number of points of the rows
abbrev pub point_count : List Row → ℕ
point_count rs = weight (λ r. length r.points) rs

-- the row may come next, its coordinates are in range, and each limit is kept
pub record Accepts (l : Allowance) (before : List Row) (r : Row) : Type 0 where
  pub admitted : admits_after before r ≡ true
  pub nest : nest_kept l (parent r.depth before) r.depth ≡ true
  pub nodes : length (geometry_rows r.depth before) < l.nodes
  pub in_range : AreInRange r.points
  pub points : point_count (geometry_rows r.depth before) + length r.points ≤ l.points

-- each row may come after those before it; the rows are given last one first
abbrev pub AreAccepted : Allowance → List Row → Type 0
AreAccepted l [] = ⊤
AreAccepted l (r ∷ before) = Accepts l before r × AreAccepted l before

-- the row is a root exactly if no row comes before it
abbrev pub IsOneRoot : List Row → Row → Type 0
IsOneRoot [] r = r.depth ≡ 0
IsOneRoot (s ∷ rs) r = 0 < r.depth

-- the row may come next after rows of one geometry, and belongs to that geometry
abbrev pub Continues : Allowance → List Row → Row → Type 0
Continues l rs r = Accepts l (reverse rs) r × IsOneRoot rs r
