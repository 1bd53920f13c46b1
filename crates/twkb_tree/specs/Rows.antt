-- The rows of a geometry in a table, before they are text.
use Rattle.std.specs.Prelude.{ℕ, suc, ℤ, List, [], ◌∷◌, ◌++◌, Option, None, Some, flat_map, drop, ◌≡◌, ◌<◌, ◌≤◌, ⊤}
use Rattle.twkb_points.specs.Point.{Point}
use Rattle.twkb_tree.specs.declared.kind.Kind.{Kind}
use Rattle.twkb_tree.specs.Tree.{Ids, Simple, point, line, polygon, multi_point, multi_line, multi_polygon, Tree}
use Rattle.twkb_tree.specs.Tree.{simple, collection, Trees, end, ◌▷◌, point_list, IsTree}
use Rattle.std.specs.List.{AllByRecursion}
use Rattle.twkb_tree.specs.Limits.{Allowance, IsValid}

-- ==== The rows of a geometry in a table, before they are text.

-- one row: its depth, its kind, its id and precision if it has them, and its own points
pub record Row : Type 0 where
  pub depth : ℕ
  pub kind : Kind
  pub id : Option ℤ
  pub precision : Option ℤ
  pub points : List Point

-- the kind of a simple shape
abbrev pub kind_in : Simple → Kind
kind_in (point o) = Kind.Point
kind_in (line ps) = Kind.Linestring
kind_in (polygon rings) = Kind.Polygon
kind_in (multi_point ids ps) = Kind.MultiPoint
kind_in (multi_line ids lines) = Kind.MultiLinestring
kind_in (multi_polygon ids areas) = Kind.MultiPolygon

-- the points of the row itself
abbrev pub own_points : Simple → List Point
own_points (point o) = point_list o
own_points (line ps) = ps
own_points _ = []

-- the id of the first member
abbrev pub first_id : Ids → Option ℤ
first_id (Some (id ∷ ids)) = Some id
first_id _ = None

-- the ids of the other members
abbrev pub other_ids : Ids → Ids
other_ids (Some (id ∷ ids)) = Some ids
other_ids ids = ids

-- the ids of the members from a place on
abbrev pub ids_from : ℕ → Ids → Ids
ids_from i None = None
ids_from i (Some ids) = Some (drop i ids)

-- the rows of each member with its id
abbrev pub rows_of_each : {A : Type 0} → (Option ℤ → A → List Row) → Ids → List A → List Row
rows_of_each f ids [] = []
rows_of_each f ids (x ∷ xs) = f (first_id ids) x ++ rows_of_each f (other_ids ids) xs

-- a row without a precision
abbrev pub plain_row : ℕ → Kind → Option ℤ → List Point → Row
plain_row d kind id ps = record { depth = d; kind = kind; id = id; precision = None; points = ps }

-- a row with a precision
abbrev pub whole_row : ℕ → Kind → Option ℤ → ℤ → List Point → Row
whole_row d kind id p ps = record { depth = d; kind = kind; id = id; precision = Some p; points = ps }

-- the rows of rings, which have no ids
abbrev pub ring_rows : ℕ → List (List Point) → List Row
ring_rows d rings = rows_of_each (λ none ring. plain_row d Kind.Ring none ring ∷ []) None rings

-- the row of a polygon, and those of its rings
abbrev pub polygon_rows : ℕ → Option ℤ → List (List Point) → List Row
polygon_rows d id rings = plain_row d Kind.Polygon id [] ∷ ring_rows (suc d) rings

-- the rows below that of a simple shape, at depth d
abbrev pub rows_below : ℕ → Simple → List Row
rows_below d (point o) = []
rows_below d (line ps) = []
rows_below d (polygon rings) = ring_rows d rings
rows_below d (multi_point ids ps) = rows_of_each (λ id p. plain_row d Kind.Point id (p ∷ []) ∷ []) ids ps
rows_below d (multi_line ids lines) = rows_of_each (λ id ps. plain_row d Kind.Linestring id ps ∷ []) ids lines
rows_below d (multi_polygon ids areas) = rows_of_each (polygon_rows d) ids areas

-- the row of the geometry itself, with this id and at this depth
abbrev pub own_row : Option ℤ → ℕ → Tree → Row
own_row id d (simple p s) = record { depth = d; kind = kind_in s; id = id; precision = Some p; points = own_points s }
own_row id d (collection p ids gs) = record {
  depth = d;
  kind = Kind.Collection;
  id = id;
  precision = Some p;
  points = [];
}

-- the rows of a geometry with this id at a depth, in preorder
abbrev mutual
  pub rows_with : Option ℤ → ℕ → Tree → List Row
  rows_with id d (simple p s) = own_row id d (simple p s) ∷ rows_below (suc d) s
  rows_with id d (collection p ids gs) = own_row id d (collection p ids gs) ∷ member_rows (suc d) ids gs

  pub member_rows : ℕ → Ids → Trees → List Row
  member_rows d ids end = []
  member_rows d ids (g ▷ gs) = rows_with (first_id ids) d g ++ member_rows d (other_ids ids) gs

-- the rows of a geometry except its own, at depth d
abbrev pub rows_under : ℕ → Tree → List Row
rows_under d (simple p s) = rows_below d s
rows_under d (collection p ids gs) = member_rows d ids gs

-- the rows of a geometry, in preorder from a depth
abbrev pub rows : ℕ → Tree → List Row
rows d g = rows_with None d g

-- the rows of geometries, one after another
abbrev pub rows_of : List Tree → List Row
rows_of gs = flat_map (rows 0) gs

-- the points of rows, one row after another
abbrev pub row_points : List Row → List Point
row_points rs = flat_map (λ r. r.points) rs

-- ==== Lists of rows that belong to geometries.

-- each tree is a geometry, whatever the limits
abbrev pub AreGeometries : List Tree → Type 0
AreGeometries gs = AllByRecursion IsTree gs

-- each tree is a valid geometry
abbrev pub AreValid : Allowance → List Tree → Type 0
AreValid l gs = AllByRecursion (IsValid l) gs

-- these are the rows of geometries
abbrev pub AreRows : List Row → Type 0
AreRows rs = (gs : List Tree) × AreGeometries gs × (rows_of gs ≡ rs)

-- these are the rows of valid geometries
abbrev pub AreValidRows : Allowance → List Row → Type 0
AreValidRows l rs = (gs : List Tree) × AreValid l gs × (rows_of gs ≡ rs)

-- the rows of valid geometries begin with these
abbrev pub BeginValidRows : Allowance → List Row → Type 0
BeginValidRows l rs = (more : List Row) × AreValidRows l (rs ++ more)

-- these are the rows of one geometry, or there are none
abbrev pub AreRowsOfOne : List Row → Type 0
AreRowsOfOne [] = ⊤
AreRowsOfOne (r ∷ rs) = (g : Tree) × IsTree g × (rows 0 g ≡ r ∷ rs)

-- these are the rows of one valid geometry, or there are none
abbrev pub AreValidRowsOfOne : Allowance → List Row → Type 0
AreValidRowsOfOne l [] = ⊤
AreValidRowsOfOne l (r ∷ rs) = (g : Tree) × IsValid l g × (rows 0 g ≡ r ∷ rs)

-- there is no row, or the first is a root
abbrev pub IsAtRoot : List Row → Type 0
IsAtRoot [] = ⊤
IsAtRoot (r ∷ rs) = r.depth ≡ 0

-- the first of the rows, if there is one, is above this depth
abbrev pub IsAbove : ℕ → List Row → Type 0
IsAbove d [] = ⊤
IsAbove d (r ∷ rs) = r.depth < d

-- the row is at this depth or above it
abbrev pub IsShallow : ℕ → Row → Type 0
IsShallow n r = r.depth ≤ n

-- each row is at this depth or above it
abbrev pub AreShallow : ℕ → List Row → Type 0
AreShallow n rs = AllByRecursion (IsShallow n) rs
