-- Geometries as whole trees with absolute points (TWKB, the seven types).
use Rattle.std.specs.Prelude.{◌≡◌, ℕ, suc, ◌+◌, ◌-◌, ◌^◌, ◌<◌, min, max, List, [], ◌∷◌, ◌++◌}
use Rattle.std.specs.Prelude.{length, ℤ, pos, negsuc, ◌≤ℤ◌, Option, Some, None, flat_map, ⊤}
use Rattle.std.specs.List.{AllByRecursion}
use Rattle.twkb_points.specs.Point.{Point}

-- the ids of members, if they have any
abbrev pub Ids : Type 0
Ids = Option (List ℤ)

-- the six shapes that hold no geometries
pub data Simple : Type 0 where
  point : Option Point → Simple
  line : List Point → Simple
  polygon : List (List Point) → Simple
  multi_point : Ids → List Point → Simple
  multi_line : Ids → List (List Point) → Simple
  multi_polygon : Ids → List (List (List Point)) → Simple

-- a geometry: its precision and its shape
mutual
  pub data Tree : Type 0 where
    simple : ℤ → Simple → Tree
    collection : ℤ → Ids → Trees → Tree

  -- the members of a collection
  pub data Trees : Type 0 where
    end : Trees
    ◌▷◌ : Tree → Trees → Trees

infixr 5 ◌▷◌
-- the number of members
abbrev pub count : Trees → ℕ
count end = 0
count (g ▷ gs) = suc (count gs)

-- the members of a list
abbrev pub trees : List Tree → Trees
trees [] = end
trees (g ∷ gs) = g ▷ trees gs

-- the members as a list
abbrev pub members : Trees → List Tree
members end = []
members (g ▷ gs) = g ∷ members gs

-- the precision of the geometry itself
abbrev pub precision_of : Tree → ℤ
precision_of (simple p s) = p
precision_of (collection p ids gs) = p

-- the point as a list, empty if there is none
abbrev pub point_list : Option Point → List Point
point_list None = []
point_list (Some p) = p ∷ []

-- the lists joined in order
abbrev pub flatten : List (List Point) → List Point
flatten lines = flat_map (λ ps. ps) lines

-- the points of a simple shape, in order
abbrev pub points_in : Simple → List Point
points_in (point o) = point_list o
points_in (line ps) = ps
points_in (polygon rings) = flatten rings
points_in (multi_point ids ps) = ps
points_in (multi_line ids lines) = flatten lines
points_in (multi_polygon ids areas) = flat_map flatten areas

-- all points of a geometry in order, members' points included
abbrev mutual
  pub flat : Tree → List Point
  flat (simple p s) = points_in s
  flat (collection p ids gs) = flat_all gs

  pub flat_all : Trees → List Point
  flat_all end = []
  flat_all (g ▷ gs) = flat g ++ flat_all gs

-- the number of rows of some polygons: one for each polygon and one for each ring
abbrev pub area_nodes : List (List (List Point)) → ℕ
area_nodes [] = 0
area_nodes (rings ∷ areas) = 1 + length rings + area_nodes areas

-- the number of rows of a simple shape: one for itself, and one for each member and ring
abbrev pub nodes_in : Simple → ℕ
nodes_in (point o) = 1
nodes_in (line ps) = 1
nodes_in (polygon rings) = 1 + length rings
nodes_in (multi_point ids ps) = 1 + length ps
nodes_in (multi_line ids lines) = 1 + length lines
nodes_in (multi_polygon ids areas) = 1 + area_nodes areas

-- the number of rows of a geometry in a table
abbrev mutual
  pub nodes : Tree → ℕ
  nodes (simple p s) = nodes_in s
  nodes (collection p ids gs) = 1 + nodes_all gs

  pub nodes_all : Trees → ℕ
  nodes_all end = 0
  nodes_all (g ▷ gs) = nodes g + nodes_all gs

-- the most collections that a member is in
abbrev mutual
  pub nest : Tree → ℕ
  nest (simple p s) = 0
  nest (collection p ids gs) = nest_all gs

  pub nest_all : Trees → ℕ
  nest_all end = 0
  nest_all (g ▷ gs) = max (suc (nest g)) (nest_all gs)

-- a precision is from -8 to 7
abbrev pub IsPrecision : ℤ → Type 0
IsPrecision n = (negsuc 7 ≤ℤ n) × (n ≤ℤ pos 7)

-- an id is from -2 ^ 63 to 2 ^ 63 - 1
abbrev pub IsId : ℤ → Type 0
IsId n = (negsuc (2 ^ 63 - 1) ≤ℤ n) × (n ≤ℤ pos (2 ^ 63 - 1))

-- each id is in range
abbrev pub AreIds : List ℤ → Type 0
AreIds ids = AllByRecursion IsId ids

-- there are no ids, or one for each of n members, and n is at least 1
abbrev pub HasIds : Ids → ℕ → Type 0
HasIds None n = ⊤
HasIds (Some ids) n = (0 < n) × (length ids ≡ n) × AreIds ids

-- the ids of a simple shape are those of its members
abbrev pub IdsFit : Simple → Type 0
IdsFit (point o) = ⊤
IdsFit (line ps) = ⊤
IdsFit (polygon rings) = ⊤
IdsFit (multi_point ids ps) = HasIds ids (length ps)
IdsFit (multi_line ids lines) = HasIds ids (length lines)
IdsFit (multi_polygon ids areas) = HasIds ids (length areas)

-- what makes a tree a geometry, whatever the limits: precisions in range, and ids that fit
abbrev mutual
  pub IsTree : Tree → Type 0
  IsTree (simple p s) = IsPrecision p × IdsFit s
  IsTree (collection p ids gs) = IsPrecision p × HasIds ids (count gs) × AreTrees gs

  pub AreTrees : Trees → Type 0
  AreTrees end = ⊤
  AreTrees (g ▷ gs) = IsTree g × AreTrees gs

-- a count that stops at the greatest u64
abbrev pub saturated : ℕ → ℕ
saturated n = min n (2 ^ 64 - 1)
