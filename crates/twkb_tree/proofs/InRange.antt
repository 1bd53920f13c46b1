-- The points of a tree in range are in range, and one more item is added to an extent.
use Rattle.std.proofs.Common.{◌≤◌, List, [], ◌∷◌, ◌++◌, length, ◌≡◌, ℕ, ◌+◌, ◌<◌, get_or, drop, ap, sym}
use Rattle.std.specs.Prelude.{None, Some, flat_map, Option}
use Rattle.twkb_points.specs.Point.{Point, AreInRange}
use Rattle.twkb_tree.specs.Tree.{Simple, point, polygon, multi_line, multi_polygon, Tree, simple, collection, Trees}
use Rattle.twkb_tree.specs.Tree.{end, ◌▷◌, flatten, points_in, flat, flat_all, nest, nodes, IsTree}
use Rattle.twkb_tree.specs.Limits.{Allowance, IsValid, LinesAreInRange, AreasAreInRange, IsSimpleInRange}
use Rattle.twkb_tree.specs.Limits.{IsTreeInRange, AreTreesInRange}
use Rattle.std.proofs.lemmas.List.{at_drop_more}
use Rattle.twkb_points.specs.Extent.{Extent, joined_options, extent}
use Rattle.twkb_points.proofs.PointLemmas.{joined_options_assoc, extent-append}

-- ==== The points of a tree in range are in range.

-- the points of two lists in range, one after the other, are in range
AreInRange-append : (ps qs : List Point) → AreInRange ps → AreInRange qs → AreInRange (ps ++ qs)
AreInRange-append [] qs h k = k
AreInRange-append (p ∷ ps) qs h k = (h.0, AreInRange-append ps qs h.1 k)

-- the points of lines in range, joined, are in range
AreInRange-flatten : (lines : List (List Point)) → LinesAreInRange lines → AreInRange (flatten lines)
AreInRange-flatten [] h = tt
AreInRange-flatten (ps ∷ lines) h = AreInRange-append ps (flatten lines) h.0 (AreInRange-flatten lines h.1)

-- the points of polygons in range, joined, are in range
AreInRange-areas : (areas : List (List (List Point))) → AreasAreInRange areas → AreInRange (flat_map flatten areas)
AreInRange-areas [] h = tt
AreInRange-areas (rings ∷ areas) h = AreInRange-append (flatten rings) (flat_map flatten areas)
    (AreInRange-flatten rings h.0) (AreInRange-areas areas h.1)

-- the points of a simple shape in range are in range
AreInRange-points_in : (s : Simple) → IsSimpleInRange s → AreInRange (points_in s)
AreInRange-points_in (point None) h = tt
AreInRange-points_in (point (Some p)) h = (h, tt)
AreInRange-points_in (polygon rings) h = AreInRange-flatten rings h
AreInRange-points_in (multi_line ids lines) h = AreInRange-flatten lines h
AreInRange-points_in (multi_polygon ids areas) h = AreInRange-areas areas h
AreInRange-points_in _ h = h

-- the points of a geometry in range are in range, and so are those of members
mutual
  pub AreInRange-flat : (g : Tree) → IsTreeInRange g → AreInRange (flat g)
  AreInRange-flat (simple p s) h = AreInRange-points_in s h
  AreInRange-flat (collection p ids gs) h = AreInRange-flat_all gs h

  AreInRange-flat_all : (gs : Trees) → AreTreesInRange gs → AreInRange (flat_all gs)
  AreInRange-flat_all end h = tt
  AreInRange-flat_all (g ▷ gs) h = AreInRange-append (flat g) (flat_all gs) (AreInRange-flat g h.0)
      (AreInRange-flat_all gs h.1)

-- a geometry with points in range that keeps each limit is valid
pub valid_within : (l : Allowance) (g : Tree) → IsTree g → IsTreeInRange g → nest g ≤ l.nest
    → nodes g ≤ l.nodes → length (flat g) ≤ l.points → IsValid l g
valid_within l g is_tree in_range few_levels few_nodes few_points =
    record {
      tree = is_tree;
      in_range = AreInRange-flat g in_range;
      nest_kept = few_levels;
      nodes_kept = few_nodes;
      points_kept = few_points;
    }

pub ruleset validity = (valid_within)

-- ==== One more item of a list added to the extent so far.

-- the extent with one more item, if f joins the points that g gives for each item
pub extent_step : {X : Type 0} (f : List X → List Point) (g : X → List Point)
    → ((x : X) (xs : List X) → f (x ∷ xs) ≡ g x ++ f xs)
    → (xs : List X) (i : ℕ) (x : X) (so_far next : Option Extent) → i < length xs
    → x ≡ get_or xs i x → next ≡ joined_options so_far (extent (g x))
    → joined_options so_far (extent (f (drop i xs))) ≡ extent (f xs)
    → joined_options next (extent (f (drop (i + 1) xs))) ≡ extent (f xs)
extent_step f g splits xs i x so_far next h is e before =
    let left = drop (i + 1) xs in
    let a = at_drop_more (λ l. extent (f l)) xs i x h in
    let b : extent (f (get_or xs i x ∷ left)) ≡ extent (f (x ∷ left)) = ap (λ y. extent (f (y ∷ left))) (sym is) in
    let c = ap extent (splits x left) in
    let d = extent-append (g x) (f left) in
    let k = joined_options_assoc so_far (extent (g x)) (extent (f left)) in
    cc
