-- Points of whole numbers, the range of their coordinates, and points that short steps can reach.
use Rattle.std.specs.Prelude.{◌-◌, ℤ, pos, negsuc, ◌+ℤ◌, ◌≤ℤ◌, List, ℕ, ◌+◌, ◌*◌, ◌^◌}
use Rattle.std.specs.List.{AllByRecursion}
use Rattle.twkb_points.specs.declared.point.TheConstants.{COORDINATE_BOUND, INNER_BOUND}

-- ==== Points of whole numbers, and the range of their coordinates.

-- a point of two whole numbers, x before y as in TWKB
pub record Point : Type 0 where
  pub x : ℤ
  pub y : ℤ

-- the point with these coordinates
abbrev pub point_at : ℤ → ℤ → Point
point_at x y = record { x = x; y = y }

-- (0, 0), from which the first difference of a list counts (TWKB; Encoded Polyline Algorithm
-- Format)
abbrev pub origin : Point
origin = point_at (pos 0) (pos 0)

-- the point at dx and dy from p
abbrev pub moved_by : Point → ℤ → ℤ → Point
moved_by p dx dy = point_at (p.x +ℤ dx) (p.y +ℤ dy)

-- a coordinate is below the bound and not below its negative, so that the difference of any two
-- fits 64 bits (profile)
abbrev pub IsCoordinate : ℤ → Type 0
IsCoordinate n = (negsuc (COORDINATE_BOUND - 1) ≤ℤ n) × (n ≤ℤ pos (COORDINATE_BOUND - 1))

-- both coordinates of a point are in range
abbrev pub IsInRange : Point → Type 0
IsInRange p = IsCoordinate p.x × IsCoordinate p.y

-- an inner coordinate is below half the bound and not below its negative, so that eight short
-- steps from it stay in the range of a coordinate
abbrev pub IsInnerCoordinate : ℤ → Type 0
IsInnerCoordinate n = (negsuc (INNER_BOUND - 1) ≤ℤ n) × (n ≤ℤ pos (INNER_BOUND - 1))

-- both coordinates of a point are inner ones
abbrev pub IsInner : Point → Type 0
IsInner p = IsInnerCoordinate p.x × IsInnerCoordinate p.y

-- each point of a list is in range
abbrev pub AreInRange : List Point → Type 0
AreInRange ps = AllByRecursion IsInRange ps

-- ==== Points that a number of short steps can reach from an inner point.

-- a short step is from -2 ^ 27 to 2 ^ 27 - 1, so its zigzag form is below 2 ^ 28
abbrev pub IsShortStep : ℤ → Type 0
IsShortStep d = (negsuc (2 ^ 27 - 1) ≤ℤ d) × (d ≤ℤ pos (2 ^ 27 - 1))

-- a coordinate that n short steps can reach from an inner one: at most n times 2 ^ 27 outside the
-- range of inner coordinates
abbrev pub IsNearCoordinate : ℕ → ℤ → Type 0
IsNearCoordinate n x = (negsuc (INNER_BOUND - 1 + n * 2 ^ 27) ≤ℤ x) × (x ≤ℤ pos (INNER_BOUND - 1 + n * 2 ^ 27))

-- a point that n short steps can reach from an inner point
abbrev pub IsNear : ℕ → Point → Type 0
IsNear n p = IsNearCoordinate n p.x × IsNearCoordinate n p.y
