-- The least and the greatest coordinates of points, and what their bounding box says of them.
use Rattle.std.specs.Prelude.{ℤ, ◌-ℤ◌, List, [], ◌∷◌, Option, None, Some, ◌+ℤ◌, ◌≤ℤ◌, map}
use Rattle.std.specs.Int.{int_min, int_max}
use Rattle.twkb_points.specs.Point.{Point}
use Rattle.std.specs.List.{All, Contains}

-- ==== The least and the greatest coordinates of points, and the numbers of their bounding box.

-- the corner of the least coordinates of some points, and the corner of the greatest
pub record Extent : Type 0 where
  pub least : Point
  pub greatest : Point

-- the extent of one point
abbrev pub extent_of : Point → Extent
extent_of p = record { least = p; greatest = p }

-- the join of two extents: the extent of the points of both
unfoldable pub joined : Extent → Extent → Extent
joined a b = record {
  least = record { x = int_min a.least.x b.least.x; y = int_min a.least.y b.least.y };
  greatest = record { x = int_max a.greatest.x b.greatest.x; y = int_max a.greatest.y b.greatest.y };
}

-- the join of the extents that are there
abbrev pub joined_options : Option Extent → Option Extent → Option Extent
joined_options None b = b
joined_options (Some a) None = Some a
joined_options (Some a) (Some b) = Some (joined a b)

-- the extent of a list of points; None if there are no points
abbrev pub extent : List Point → Option Extent
extent [] = None
extent (p ∷ ps) = joined_options (Some (extent_of p)) (extent ps)

-- least x, greatest less least x, least y, greatest less least y (TWKB, bounding box)
abbrev pub box_numbers : Extent → List ℤ
box_numbers e = e.least.x ∷ (e.greatest.x -ℤ e.least.x) ∷ e.least.y ∷ (e.greatest.y -ℤ e.least.y) ∷ []

-- the box numbers of a list of points; an empty list if there are no points
abbrev pub tight : List Point → List ℤ
tight ps = elim (extent ps) [ None ↦ [] | Some e ↦ box_numbers e ]

-- ==== What extents and boxes say of the points: they are bounds, and each bound is reached.

-- the first coordinates of some points
abbrev pub xs : List Point → List ℤ
xs ps = map (λ (p : Point). p.x) ps

-- the second coordinates of some points
abbrev pub ys : List Point → List ℤ
ys ps = map (λ (p : Point). p.y) ps

-- n is one of the numbers, and none of them is below it
pub record IsLeast (n : ℤ) (ns : List ℤ) : Type 0 where
  pub reached : Contains ns n
  pub bound : All (λ m. n ≤ℤ m) ns

-- n is one of the numbers, and none of them is above it
pub record IsGreatest (n : ℤ) (ns : List ℤ) : Type 0 where
  pub reached : Contains ns n
  pub bound : All (λ m. m ≤ℤ n) ns

-- the corners of the extent hold the least and the greatest coordinates of the points
pub record IsExtentOf (e : Extent) (ps : List Point) : Type 0 where
  pub least_x : IsLeast e.least.x (xs ps)
  pub greatest_x : IsGreatest e.greatest.x (xs ps)
  pub least_y : IsLeast e.least.y (ys ps)
  pub greatest_y : IsGreatest e.greatest.y (ys ps)

-- the box starts at the least first coordinate and the least second one, and reaches as far as
-- its width and height (TWKB, bounding box)
pub record IsBox (ps : List Point) (x width y height : ℤ) : Type 0 where
  pub least_x : IsLeast x (xs ps)
  pub greatest_x : IsGreatest (x +ℤ width) (xs ps)
  pub least_y : IsLeast y (ys ps)
  pub greatest_y : IsGreatest (y +ℤ height) (ys ps)
