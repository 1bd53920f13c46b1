-- The text of a valid geometry is that of one JSON value, its own.
use Rattle.std.proofs.Common.{◌≡◌, ℕ, suc, ◌+◌, ◌*◌, ◌≤◌, length, List, [], ◌∷◌, ◌++◌, map, Some, None, arith}
use Rattle.std.proofs.Common.{ℤ, pos, negsuc}
use Rattle.std.specs.Prelude.{flat_map, codes}
use Rattle.std.specs.List.{AllByRecursion}
use Rattle.std.specs.Fmt.{signed_decimal}
use lib.Dec.{leb→le}
use Rattle.json.specs.Json.{Json, number, array, document}
use Rattle.json.specs.Value.{items_of}
use Rattle.json.specs.Tree.{HasNumbers, ItemsHaveNumbers, depth, items_depth}
use Rattle.json.proofs.Printed.Trees.{document-print}
use Rattle.json.proofs.Printed.Decimals.{IsNumber-signed_decimal}
use Rattle.twkb_points.specs.Point.{Point, IsInRange, AreInRange}
use Rattle.twkb_tree.specs.declared.kind.Kind.{Kind}
use Rattle.twkb_tree.specs.Tree.{Ids, Simple, point, line, polygon, multi_point, multi_line, multi_polygon}
use Rattle.twkb_tree.specs.Tree.{flatten, points_in}
use Rattle.twkb_tree.specs.Tree.{Tree, simple, collection, Trees, end, ◌▷◌, flat, flat_all, IsPrecision}
use Rattle.twkb_tree.specs.Tree.{IsTree, AreTrees, IsId}
use Rattle.twkb_tree.specs.Tree.{nest, nest_all, HasIds, IdsFit, count}
use Rattle.twkb_tree.specs.Rows.{kind_in}
use Rattle.twkb_tree.specs.Limits.{IsValid, largest_limits, IsSimpleInRange, IsTreeInRange, AreTreesInRange}
use Rattle.twkb_tree.specs.Limits.{LinesAreInRange}
use Rattle.twkb_geojson.specs.Value.{position, positions, lists, coordinates, ids_of}
use Rattle.twkb_geojson.specs.Value.{typed, value_of, values_of, geojson}
use Rattle.twkb_geojson.proofs.NumberLemmas.{coordinate_number}

-- ---- points in range, along the shape

all_of : {A : Type 0} (P : A → Type 0) (xs ys : List A) → AllByRecursion P (xs ++ ys)
    → AllByRecursion P xs × AllByRecursion P ys
all_of P [] ys h = (tt, h)
all_of P (x ∷ xs) ys h = let r = all_of P xs ys h.1 in ((h.0, r.0), r.1)

all_flat : {A : Type 0} (g : A → List Point) (xs : List A) → AreInRange (flat_map g xs)
    → AllByRecursion (λ x. AreInRange (g x)) xs
all_flat g [] h = tt
all_flat g (x ∷ xs) h = let r = all_of IsInRange (g x) (flat_map g xs) h in (r.0, all_flat g xs r.1)

all_areas : (areas : List (List (List Point))) → AllByRecursion (λ a. AreInRange (flatten a)) areas
    → AllByRecursion LinesAreInRange areas
all_areas [] h = tt
all_areas (a ∷ areas) h = (all_flat (λ ps. ps) a h.0, all_areas areas h.1)

simple_in : (s : Simple) → AreInRange (points_in s) → IsSimpleInRange s
simple_in (point None) h = tt
simple_in (point (Some p)) h = h.0
simple_in (line ps) h = h
simple_in (polygon rings) h = all_flat (λ ps. ps) rings h
simple_in (multi_point ids ps) h = h
simple_in (multi_line ids lines) h = all_flat (λ ps. ps) lines h
simple_in (multi_polygon ids areas) h = all_areas areas (all_flat flatten areas h)

mutual
  pub tree_in : (g : Tree) → AreInRange (flat g) → IsTreeInRange g
  tree_in (simple p s) h = simple_in s h
  tree_in (collection p ids gs) h = trees_in gs h

  trees_in : (gs : Trees) → AreInRange (flat_all gs) → AreTreesInRange gs
  trees_in end h = tt
  trees_in (g ▷ gs) h = let r = all_of IsInRange (flat g) (flat_all gs) h in (tree_in g r.0, trees_in gs r.1)

-- ---- each number of a value is one of JSON

pub items_have : {A : Type 0} (f : A → Json) (P : A → Type 0) → ((x : A) → P x → HasNumbers (f x)) → (xs : List A)
    → AllByRecursion P xs → ItemsHaveNumbers (items_of (map f xs))
items_have f P each [] all = tt
items_have f P each (x ∷ xs) all = (each x all.0, items_have f P each xs all.1)

position_has : (p : ℤ) (a : Point) → IsPrecision p → IsInRange a → HasNumbers (position p a)
position_has p a known inside = (coordinate_number p a.x known inside.0, (coordinate_number p a.y known inside.1, tt))

positions_have : (p : ℤ) (ps : List Point) → IsPrecision p → AreInRange ps → HasNumbers (positions p ps)
positions_have p ps known all = items_have (position p) IsInRange (λ a inside. position_has p a known inside) ps all

lists_have : (p : ℤ) (lines : List (List Point)) → IsPrecision p → LinesAreInRange lines → HasNumbers (lists p lines)
lists_have p lines known all =
    items_have (positions p) AreInRange (λ ps inside. positions_have p ps known inside) lines all

coordinates_have : (p : ℤ) (s : Simple) → IsPrecision p → IsSimpleInRange s → HasNumbers (coordinates p s)
coordinates_have p (point None) known all = tt
coordinates_have p (point (Some a)) known all = position_has p a known all
coordinates_have p (line ps) known all = positions_have p ps known all
coordinates_have p (polygon rings) known all = lists_have p rings known all
coordinates_have p (multi_point ids ps) known all = positions_have p ps known all
coordinates_have p (multi_line ids lines) known all = lists_have p lines known all
coordinates_have p (multi_polygon ids areas) known all =
    items_have (lists p) LinesAreInRange (λ lines inside. lists_have p lines known inside) areas all

id_has : (id : ℤ) → IsId id → HasNumbers (number (signed_decimal id))
id_has (pos n) h = IsNumber-signed_decimal (pos n) (omega (arith, leb→le n 9223372036854775807 h.1.le))
id_has (negsuc n) h = IsNumber-signed_decimal (negsuc n) (omega (arith, leb→le n 9223372036854775807 h.0.le))

typed_has : (kind : Kind) (ids : Ids) (n : ℕ) (name : List ℕ) (value : Json) → HasIds ids n → HasNumbers value
    → HasNumbers (typed kind ids name value)
typed_has kind None n name value fit h = (tt, (h, tt))
typed_has kind (Some ids) n name value fit h =
    (tt, (items_have (λ id. number (signed_decimal id)) IsId id_has ids fit.2, (h, tt)))

ids_fit : (s : Simple) → IdsFit s → (n : ℕ) × HasIds (ids_of s) n
ids_fit (point o) fit = (0, tt)
ids_fit (line ps) fit = (0, tt)
ids_fit (polygon rings) fit = (0, tt)
ids_fit (multi_point ids ps) fit = (length ps, fit)
ids_fit (multi_line ids lines) fit = (length lines, fit)
ids_fit (multi_polygon ids areas) fit = (length areas, fit)

simple_has : (p : ℤ) (s : Simple) → IsPrecision p → IdsFit s → IsSimpleInRange s → HasNumbers (value_of (simple p s))
simple_has p s known fit inside =
    let ids = ids_fit s fit in
    typed_has (kind_in s) (ids_of s) ids.0 (codes "coordinates") (coordinates p s) ids.1
    (coordinates_have p s known inside)

mutual
  pub value_has : (g : Tree) → IsTree g → IsTreeInRange g → HasNumbers (value_of g)
  value_has (simple p s) is inside = simple_has p s is.0 is.1 inside
  value_has (collection p ids gs) is inside = typed_has Kind.Collection ids (count gs) (codes "geometries")
      (array (values_of gs)) is.1 (values_have gs is.2 inside)

  values_have : (gs : Trees) → AreTrees gs → AreTreesInRange gs → ItemsHaveNumbers (values_of gs)
  values_have end are inside = tt
  values_have (g ▷ gs) are inside = (value_has g are.0 inside.0, values_have gs are.1 inside.1)

-- ---- how deep a value nests

items_deep : {A : Type 0} (f : A → Json) (k : ℕ) → ((x : A) → depth (f x) ≤ k) → (xs : List A)
    → items_depth (items_of (map f xs)) ≤ k
items_deep f k each [] = omega arith
items_deep f k each (x ∷ xs) = omega (arith, each x, items_deep f k each xs)

positions_deep : (p : ℤ) (ps : List Point) → depth (positions p ps) ≤ 2
positions_deep p ps = omega (arith, items_deep (position p) 1 (λ a. omega arith) ps)

lists_deep : (p : ℤ) (lines : List (List Point)) → depth (lists p lines) ≤ 3
lists_deep p lines = omega (arith, items_deep (positions p) 2 (positions_deep p) lines)

coordinates_deep : (p : ℤ) (s : Simple) → depth (coordinates p s) ≤ 4
coordinates_deep p (point None) = omega arith
coordinates_deep p (point (Some a)) = omega arith
coordinates_deep p (line ps) = omega (arith, positions_deep p ps)
coordinates_deep p (polygon rings) = omega (arith, lists_deep p rings)
coordinates_deep p (multi_point ids ps) = omega (arith, positions_deep p ps)
coordinates_deep p (multi_line ids lines) = omega (arith, lists_deep p lines)
coordinates_deep p (multi_polygon ids areas) = omega (arith, items_deep (lists p) 3 (lists_deep p) areas)

typed_deep : (kind : Kind) (ids : Ids) (name : List ℕ) (value : Json) (k : ℕ) → 1 ≤ k → depth value ≤ k
    → depth (typed kind ids name value) ≤ suc k
typed_deep kind None name value k some h = omega (arith, h)
typed_deep kind (Some ids) name value k some h =
    omega (arith, h, items_deep (λ id. number (signed_decimal id)) 0 (λ id. omega arith) ids)

mutual
  pub value_deep : (g : Tree) → depth (value_of g) ≤ 2 * nest g + 5
  value_deep (simple p s) = omega (
    arith,
    typed_deep (kind_in s) (ids_of s) (codes "coordinates") (coordinates p s) 4 (omega arith) (coordinates_deep p s),
  )
  value_deep (collection p ids gs) =
      let inner : suc (items_depth (values_of gs)) ≤ 2 * nest_all gs + 4 = omega (arith, values_deep gs) in
      omega (
        arith,
        typed_deep Kind.Collection ids (codes "geometries") (array (values_of gs)) (2 * nest_all gs + 4)
            (omega arith) inner,
      )

  values_deep : (gs : Trees) → items_depth (values_of gs) ≤ 2 * nest_all gs + 3
  values_deep end = omega arith
  values_deep (g ▷ gs) = omega (arith, value_deep g, values_deep gs)

-- the text of a valid geometry is that of its value
pub one_value : (g : Tree) → IsValid largest_limits g → document (geojson g) ≡ Some (value_of g)
one_value g valid = document-print (value_of g) (value_has g valid.tree (tree_in g valid.in_range))
    (omega (arith, value_deep g, valid.nest_kept))
