-- Limits on a geometry and the range of its points, when it is within them, and whether its members have its precision.
use Rattle.std.specs.Prelude.{ℕ, ◌<◌, ◌≤◌, length, List, None, Some, ⊤, Bool, true, false, ◌&&◌, ℤ, pos, negsuc}
use Rattle.std.specs.Prelude.{nat_eq}
use Rattle.twkb_points.specs.Point.{AreInRange, Point, IsInRange}
use Rattle.twkb_tree.specs.declared.limits.TheConstants.{NEST_STANDARD, NEST_CAP, NODES_CAP, POINTS_CAP}
use Rattle.twkb_tree.specs.Tree.{Tree, IsTree, flat, nest, nodes, Simple, point, line, polygon, multi_point}
use Rattle.twkb_tree.specs.Tree.{multi_line, multi_polygon, simple, collection, Trees, end, ◌▷◌, precision_of}
use Rattle.std.specs.List.{AllByRecursion}

-- ==== Limits on a geometry, and when it is within them.

-- the most collections that a member may be in, and the most nodes and points of a geometry
pub record Allowance : Type 0 where
  pub nest : ℕ
  pub nodes : ℕ
  pub points : ℕ

-- no limit is above its cap, and at least one node is allowed (profile)
pub record IsAllowance (l : Allowance) : Type 0 where
  pub nest_cap : l.nest ≤ NEST_CAP
  pub one_node : 0 < l.nodes
  pub nodes_cap : l.nodes ≤ NODES_CAP
  pub points_cap : l.points ≤ POINTS_CAP

-- the limits of a caller who sets none (profile)
abbrev pub standard_limits : Allowance
standard_limits = record { nest = NEST_STANDARD; nodes = NODES_CAP; points = POINTS_CAP }

-- each limit at its cap
abbrev pub largest_limits : Allowance
largest_limits = record { nest = NEST_CAP; nodes = NODES_CAP; points = POINTS_CAP }

-- a geometry with coordinates in range, within the limits
pub record IsValid (l : Allowance) (g : Tree) : Type 0 where
  pub tree : IsTree g
  pub in_range : AreInRange (flat g)
  pub nest_kept : nest g ≤ l.nest
  pub nodes_kept : nodes g ≤ l.nodes
  pub points_kept : length (flat g) ≤ l.points

-- ==== Each point of a geometry is in range, stated along its shape.

-- each point of the lines is in range
abbrev pub LinesAreInRange : List (List Point) → Type 0
LinesAreInRange = AllByRecursion AreInRange

-- each point of the polygons is in range
abbrev pub AreasAreInRange : List (List (List Point)) → Type 0
AreasAreInRange = AllByRecursion LinesAreInRange

-- each point of a simple shape is in range
abbrev pub IsSimpleInRange : Simple → Type 0
IsSimpleInRange (point None) = ⊤
IsSimpleInRange (point (Some p)) = IsInRange p
IsSimpleInRange (line ps) = AreInRange ps
IsSimpleInRange (polygon rings) = LinesAreInRange rings
IsSimpleInRange (multi_point ids ps) = AreInRange ps
IsSimpleInRange (multi_line ids lines) = LinesAreInRange lines
IsSimpleInRange (multi_polygon ids areas) = AreasAreInRange areas

-- each point of a geometry is in range
abbrev mutual
  pub IsTreeInRange : Tree → Type 0
  IsTreeInRange (simple p s) = IsSimpleInRange s
  IsTreeInRange (collection p ids gs) = AreTreesInRange gs

  pub AreTreesInRange : Trees → Type 0
  AreTreesInRange end = ⊤
  AreTreesInRange (g ▷ gs) = IsTreeInRange g × AreTreesInRange gs

-- ==== The test that a collection's members have its precision.

-- the two numbers are equal
abbrev pub int_eq : ℤ → ℤ → Bool
int_eq (pos m) (pos n) = nat_eq m n
int_eq (negsuc m) (negsuc n) = nat_eq m n
int_eq (pos m) (negsuc n) = false
int_eq (negsuc m) (pos n) = false

-- the geometry, and each member of a collection in it at any depth, has the precision p
abbrev mutual
  pub has_precision : ℤ → Tree → Bool
  has_precision p (simple q s) = int_eq p q
  has_precision p (collection q ids gs) = int_eq p q && have_precision p gs

  pub have_precision : ℤ → Trees → Bool
  have_precision p end = true
  have_precision p (g ▷ gs) = has_precision p g && have_precision p gs

-- each member of a collection in the geometry, at any depth, has its precision
abbrev pub uniform : Tree → Bool
uniform g = has_precision (precision_of g) g
