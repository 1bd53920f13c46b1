-- Points that are spelled by their steps, each from the point before it.
use Rattle.std.specs.Prelude.{◌≡◌, ℕ, ℤ, ◌+◌, ◌≤◌, List, [], ◌∷◌, ◌++◌, length, take, drop, ◌-ℤ◌, Some, slice_get}
use Rattle.twkb_num.specs.Alphabet.{five_unit}
use Rattle.twkb_num.specs.Spelling.{shortest, zigzag_of}
use Rattle.twkb_num.specs.Varint.{varint_of}
use Rattle.twkb_points.specs.Point.{IsShortStep, Point, IsInRange, moved_by, origin}

-- ==== Points that are spelled by their steps, each from the point before it.

-- a step as two varints, x before y (TWKB)
abbrev pub varint_step : ℤ → ℤ → List ℕ
varint_step dx dy = varint_of (zigzag_of dx) ++ varint_of (zigzag_of dy)

-- a step as characters, y before x (Encoded Polyline Algorithm Format)
abbrev pub character_step : ℤ → ℤ → List ℕ
character_step dx dy = shortest five_unit 32 (zigzag_of dy) ++ shortest five_unit 32 (zigzag_of dx)

-- the first `count` bytes are two short steps, one after the other
pub record TwoInFront (bytes_of : ℤ → ℤ → List ℕ) (bytes : List ℕ) (dx dy ex ey : ℤ) (count : ℕ) : Type 0 where
  pub within : count ≤ length bytes
  pub spelled : take count bytes ≡ bytes_of dx dy ++ bytes_of ex ey
  pub dx_short : IsShortStep dx
  pub dy_short : IsShortStep dy
  pub ex_short : IsShortStep ex
  pub ey_short : IsShortStep ey

-- the first `count` bytes are a short step from one point to another, which is in range
pub record IsStepTo (bytes_of : ℤ → ℤ → List ℕ) (from : Point) (bytes : List ℕ) (to : Point)
    (count : ℕ) : Type 0 where
  pub dx : ℤ
  pub dy : ℤ
  pub within : count ≤ length bytes
  pub spelled : take count bytes ≡ bytes_of dx dy
  pub dx_short : IsShortStep dx
  pub dy_short : IsShortStep dy
  pub leads : to ≡ moved_by from dx dy
  pub kept : IsInRange to

-- the first `count` bytes are the steps to these points, each from the one before it
abbrev pub AreStepsTo : (ℤ → ℤ → List ℕ) → Point → List ℕ → List Point → ℕ → Type 0
AreStepsTo bytes_of from bytes [] count = count ≡ 0
AreStepsTo bytes_of from bytes (p ∷ ps) count = (first : ℕ) × (rest : ℕ) × (count ≡ first + rest)
    × IsStepTo bytes_of from bytes p first × AreStepsTo bytes_of p (drop first bytes) ps rest

-- the last of these points, or if there are none the point before them
abbrev pub last_of : Point → List Point → Point
last_of from [] = from
last_of from (p ∷ ps) = last_of p ps

-- ==== Points as differences (TWKB, point arrays; Encoded Polyline Algorithm Format).

-- each point less the one before it, the first less p
abbrev pub differences_from : Point → List Point → List (ℤ × ℤ)
differences_from p [] = []
differences_from p (q ∷ qs) = (q.x -ℤ p.x, q.y -ℤ p.y) ∷ differences_from q qs

-- the first point, and then each less the one before it
abbrev pub differences : List Point → List (ℤ × ℤ)
differences ps = differences_from origin ps

-- the points that the differences lead to from p
abbrev pub points_from : Point → List (ℤ × ℤ) → List Point
points_from p [] = []
points_from p (d ∷ ds) = moved_by p d.0 d.1 ∷ points_from (moved_by p d.0 d.1) ds

-- the points that the differences lead to from (0, 0)
abbrev pub points_of : List (ℤ × ℤ) → List Point
points_of ds = points_from origin ds

-- the differences, place by place: there is one for each point, the first is the first point, and
-- each other is a point less the one before it
pub record AreDifferences (ps : List Point) (ds : List (ℤ × ℤ)) : Type 0 where
  pub as_many : length ds ≡ length ps
  pub first : (p : Point) → slice_get ps 0 ≡ Some p → slice_get ds 0 ≡ Some (p.x, p.y)
  pub later : (i : ℕ) (p q : Point) → slice_get ps i ≡ Some p → slice_get ps (i + 1) ≡ Some q
      → slice_get ds (i + 1) ≡ Some (q.x -ℤ p.x, q.y -ℤ p.y)
