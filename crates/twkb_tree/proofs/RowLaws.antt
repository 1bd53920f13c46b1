-- The rows of geometries: their points, nesting and sums, and where a geometry begins and ends.
use Rattle.std.proofs.Common.{List, [], ◌∷◌, ◌++◌, ◌≡◌, ℕ, suc, length, Option, Some, None, refl, sym, ◌∙◌, ap, subst}
use Rattle.std.proofs.Common.{arith, length-append, append_assoc, append-nil, ◌+◌, ◌≤◌, true, false, ◌<◌, zero, ◌==◌}
use Rattle.std.proofs.Common.{eq-eqb, ne_eqb}
use Rattle.std.specs.List.{AllByRecursion}
use Rattle.std.specs.Prelude.{ℤ, flat_map, ⊤, nat_le, reverse}
use Rattle.std.proofs.lemmas.Bool.Decides.{nat_tests}
use Rattle.std.proofs.lemmas.List.{reverse-reverse, reverse-append}
use Rattle.twkb_points.specs.Point.{Point, IsInRange, AreInRange}
use Rattle.twkb_tree.specs.Tree.{Tree, Trees, Simple, Ids, simple, collection, end, ◌▷◌, point, line, polygon}
use Rattle.twkb_tree.specs.Tree.{multi_point, multi_line, multi_polygon, flat, flat_all, flatten, points_in, trees}
use Rattle.twkb_tree.specs.Tree.{members, AreTrees, nest, nest_all, IsTree}
use Rattle.twkb_tree.specs.Rows.{Row, rows, rows_with, member_rows, rows_below, ring_rows, row_points, own_points}
use Rattle.twkb_tree.specs.Rows.{first_id, other_ids, rows_of, own_row, plain_row, polygon_rows, rows_of_each}
use Rattle.twkb_tree.specs.Rows.{AreGeometries, AreRows, AreRowsOfOne, IsAtRoot, IsAbove, AreValid, AreValidRows}
use Rattle.twkb_tree.specs.Rows.{IsShallow, AreShallow}
use Rattle.twkb_tree.specs.Admits.{point_count, nest_kept, IsOneRoot, is_collection, admits, IsAdmitted, since_root}
use Rattle.twkb_tree.specs.Admits.{geometry_rows, weight}
use Rattle.twkb_tree.specs.Limits.{Allowance}
use Rattle.twkb_tree.specs.declared.kind.Kind.TheVariants as kind
use Rattle.twkb_tree.proofs.RowForest.{Nodes, none, each_nodes, ring_nodes, simple_below, member_nodes, tree_below}
use Rattle.twkb_tree.proofs.RowForest.{listed, past, trees_from, node, IsDeep, Fit, rebuilt}
use Rattle.twkb_tree.proofs.RowSteps.{own_row-depth, fit_roots, simple_kind, trees_back, Locally, past-listed}
use Rattle.twkb_tree.proofs.RowSteps.{forest_of, past-forest_of, forest_fits, rows_admitted, fit_deep, one_forest}
use Rattle.twkb_tree.proofs.RowSteps.{listed-members, onto-append, Along}
use mathlib.Core.List.{reverse_aux}
use Rattle.std.proofs.lemmas.Grind.{reverse_onto}

-- ==== A fact that holds of each item of two lists holds of each item of the joined list, and the
-- other way round.

-- the fact holds of each item of the joined list
pub all_join : {X : Type 0} (P : X → Type 0) (xs ys : List X) → AllByRecursion P xs
    → AllByRecursion P ys → AllByRecursion P (xs ++ ys)
all_join P [] ys a b = b
all_join P (x ∷ xs) ys a b = (a.0, all_join P xs ys a.1 b)

-- the fact holds of each item of both parts
pub all_apart : {X : Type 0} (P : X → Type 0) (xs ys : List X) → AllByRecursion P (xs ++ ys)
    → AllByRecursion P xs × AllByRecursion P ys
all_apart P [] ys h = (tt, h)
all_apart P (x ∷ xs) ys h = let t = all_apart P xs ys h.1 in ((h.0, t.0), t.1)

-- ==== The points of a geometry are those of its rows, in order.

-- the points of joined rows
pub row_points-append : (xs ys : List Row) → row_points (xs ++ ys) ≡ row_points xs ++ row_points ys
row_points-append [] ys = refl
row_points-append (x ∷ xs) ys = ap (λ ps. x.points ++ ps) (row_points-append xs ys)
    ∙ sym (append_assoc x.points (row_points xs) (row_points ys))

-- the points of the rows of parts
row_points-each : {A : Type 0} (f : Option ℤ → A → List Row) (own : A → List Point)
    → ((id : Option ℤ) (x : A) → row_points (f id x) ≡ own x) → (ids : Ids) (xs : List A)
    → row_points (rows_of_each f ids xs) ≡ flat_map own xs
row_points-each f own same ids [] = refl
row_points-each f own same ids (x ∷ xs) =
    row_points-append (f (first_id ids) x) (rows_of_each f (other_ids ids) xs)
    ∙ ap (λ ps. ps ++ row_points (rows_of_each f (other_ids ids) xs)) (same (first_id ids) x)
    ∙ ap (λ ps. own x ++ ps) (row_points-each f own same (other_ids ids) xs)

-- the points of the rows of rings
row_points-rings : (d : ℕ) (rings : List (List Point)) → row_points (ring_rows d rings) ≡ flatten rings
row_points-rings d rings = row_points-each (λ id ring. plain_row d kind.Ring id ring ∷ [])
    (λ ring. ring)
    (λ id ring. append-nil ring) None rings

-- the points of the rows of points
row_points-points : (d : ℕ) (ids : Ids) (ps : List Point) → row_points (rows_below d (multi_point ids ps)) ≡ ps
row_points-points d ids [] = refl
row_points-points d ids (p ∷ ps) = ap (λ qs. p ∷ qs) (row_points-points d (other_ids ids) ps)

-- the points of the rows of a simple shape
row_points-simple : (d : ℕ) (s : Simple) → own_points s ++ row_points (rows_below d s) ≡ points_in s
row_points-simple d (point None) = refl
row_points-simple d (point (Some p)) = refl
row_points-simple d (line ps) = append-nil ps
row_points-simple d (polygon rings) = row_points-rings d rings
row_points-simple d (multi_point ids ps) = row_points-points d ids ps
row_points-simple d (multi_line ids lines) = row_points-each
    (λ id ps. plain_row d kind.Linestring id ps ∷ [])
    (λ ps. ps) (λ id ps. append-nil ps) ids lines
row_points-simple d (multi_polygon ids areas) = row_points-each (polygon_rows d) flatten
    (λ id rings. row_points-rings (suc d) rings) ids areas

mutual
  pub row_points-with : (id : Option ℤ) (d : ℕ) (g : Tree) → row_points (rows_with id d g) ≡ flat g
  row_points-with id d (simple q s) = row_points-simple (suc d) s
  row_points-with id d (collection q ids gs) = row_points-members (suc d) ids gs

  row_points-members : (d : ℕ) (ids : Ids) (gs : Trees) → row_points (member_rows d ids gs) ≡ flat_all gs
  row_points-members d ids end = refl
  row_points-members d ids (g ▷ gs) =
      row_points-append (rows_with (first_id ids) d g) (member_rows d (other_ids ids) gs)
      ∙ ap (λ ps. ps ++ row_points (member_rows d (other_ids ids) gs)) (row_points-with (first_id ids) d g)
      ∙ ap (λ ps. flat g ++ ps) (row_points-members d (other_ids ids) gs)

-- ---- the number of points

-- there are as many points as the rows count
pub length-row_points : (rs : List Row) → length (row_points rs) ≡ point_count rs
length-row_points [] = refl
length-row_points (r ∷ rs) = omega (arith, length-append r.points (row_points rs), length-row_points rs)

-- there are as many points as the geometry has
pub point_count-rows : (g : Tree) → point_count (rows 0 g) ≡ length (flat g)
point_count-rows g = sym (length-row_points (rows 0 g)) ∙ ap (λ ps. length ps) (row_points-with None 0 g)

-- ---- the range of points

-- the points of the row are in range
abbrev pub HasPointsInRange : Row → Type 0
HasPointsInRange r = AreInRange r.points

-- all points are in range if each row's are
of_each_row : (rs : List Row) → AllByRecursion HasPointsInRange rs → AreInRange (row_points rs)
of_each_row [] h = tt
of_each_row (r ∷ rs) h = all_join IsInRange r.points (row_points rs) h.0 (of_each_row rs h.1)

-- each row's points are in range if all are
each_row : (rs : List Row) → AreInRange (row_points rs) → AllByRecursion HasPointsInRange rs
each_row [] h = tt
each_row (r ∷ rs) h = let t = all_apart IsInRange r.points (row_points rs) h in (t.0, each_row rs t.1)

-- a geometry's points are in range if its rows' points are
pub flat_in_range : (g : Tree) → AllByRecursion HasPointsInRange (rows 0 g) → AreInRange (flat g)
flat_in_range g h = subst AreInRange (row_points-with None 0 g) (of_each_row (rows 0 g) h)

-- a geometry's rows have their points in range if its points are
pub rows_in_range : (g : Tree) → AreInRange (flat g) → AllByRecursion HasPointsInRange (rows 0 g)
rows_in_range g h = each_row (rows 0 g) (subst AreInRange (sym (row_points-with None 0 g)) h)

-- ==== The rows of a list of geometries and the rows of members are the same.

-- the rows of roots
abbrev pub rows_all : Trees → List Row
rows_all gs = member_rows 0 None gs

-- the rows of a list, as members, are the rows of the list
pub rows_all-trees : (gs : List Tree) → rows_all (trees gs) ≡ rows_of gs
rows_all-trees [] = refl
rows_all-trees (g ∷ gs) = ap (λ rs. rows 0 g ++ rs) (rows_all-trees gs)

-- the rows of members, as a list, are the rows of the members
pub rows_of-members : (gs : Trees) → rows_of (members gs) ≡ rows_all gs
rows_of-members end = refl
rows_of-members (g ▷ gs) = ap (λ rs. rows 0 g ++ rs) (rows_of-members gs)

-- a list turned into members and back is the list
pub members-trees : (gs : List Tree) → members (trees gs) ≡ gs
members-trees [] = refl
members-trees (g ∷ gs) = ap (λ hs. g ∷ hs) (members-trees gs)

-- a list of geometries is members that are geometries
pub AreTrees-trees : (gs : List Tree) → AreGeometries gs → AreTrees (trees gs)
AreTrees-trees [] h = tt
AreTrees-trees (g ∷ gs) h = (h.0, AreTrees-trees gs h.1)

-- members that are geometries are a list of geometries
pub geometries_are : (gs : Trees) → AreTrees gs → AreGeometries (members gs)
geometries_are end h = tt
geometries_are (g ▷ gs) h = (h.0, geometries_are gs h.1)

-- ==== The rows of a geometry keep the nesting exactly if the geometry does.

-- the row keeps the nesting under its parent
abbrev pub Nests : Allowance → Option Row → Row → Type 0
Nests m p r = nest_kept m p r.depth ≡ true

-- parts are not members of a collection
simple_each : {A : Type 0} (m : Allowance) (p : Row) (row : Option ℤ → A → Row) (below : A → Nodes)
    (ids : Ids) (xs : List A) → is_collection p.kind ≡ false
    → ((id : Option ℤ) (x : A) → Locally (Nests m) (Some (row id x)) (below x))
    → Locally (Nests m) (Some p) (each_nodes row below ids xs)
simple_each m p row below ids [] e h = tt
simple_each m p row below ids (x ∷ xs) e h = (
  rw e refl,
  h (first_id ids) x,
  simple_each m p row below (other_ids ids) xs e h,
)

-- the rows below a simple shape are not members of a collection
simple_nests : (m : Allowance) (d : ℕ) (p : Row) (s : Simple) → is_collection p.kind ≡ false
    → Locally (Nests m) (Some p) (simple_below d s)
simple_nests m d p (polygon rings) e = simple_each m p (plain_row d kind.Ring) (λ ring. none) None rings e (λ id x. tt)
simple_nests m d p (multi_point ids ps) e = simple_each m p
    (λ id q. plain_row d kind.Point id (q ∷ [])) (λ q. none) ids ps e (λ id x. tt)
simple_nests m d p (multi_line ids lines) e = simple_each m p (plain_row d kind.Linestring)
    (λ ps. none) ids lines e (λ id x. tt)
simple_nests m d p (multi_polygon ids areas) e =
    simple_each m p (λ id rings. plain_row d kind.Polygon id []) (ring_nodes (suc d)) ids areas e
    (λ id rings. simple_each m (plain_row d kind.Polygon id []) (plain_row (suc d) kind.Ring)
    (λ ring. none) None rings refl (λ id' x. tt))
simple_nests m d p _ e = tt

mutual
  nests_depth : (m : Allowance) (d : ℕ) (id : Option ℤ) (g : Tree) → d ≤ m.nest
      → Locally (Nests m) (Some (own_row id d g)) (tree_below (suc d) g) → d + nest g ≤ m.nest
  nests_depth m d id (simple q s) le h = omega arith
  nests_depth m d id (collection q ids gs) le h = all_kept m d (own_row id d (collection q ids gs)) ids gs refl le h

  all_kept : (m : Allowance) (d : ℕ) (p : Row) (ids : Ids) (gs : Trees)
      → is_collection p.kind ≡ true → d ≤ m.nest → Locally (Nests m) (Some p)
      (member_nodes (suc d) ids gs) → d + nest_all gs ≤ m.nest
  all_kept m d p ids end e le h = omega arith
  all_kept m d p ids (g ▷ gs) e le h =
      let here : nat_le (suc d) m.nest ≡ true = ap (λ k. nat_le k m.nest)
      (sym (own_row-depth (first_id ids) (suc d) g)) ∙ (rw e at h.0) in
      let deep : suc d ≤ m.nest = grind (arith, nat_tests) in
      let one = nests_depth m (suc d) (first_id ids) g deep h.1 in
      let rest = all_kept m d p (other_ids ids) gs e le h.2 in
      omega (arith, one, rest)

mutual
  depth_nests : (m : Allowance) (d : ℕ) (id : Option ℤ) (g : Tree) → d + nest g ≤ m.nest
      → Locally (Nests m) (Some (own_row id d g)) (tree_below (suc d) g)
  depth_nests m d id (simple q s) le = simple_nests m (suc d) (own_row id d (simple q s)) s (simple_kind s)
  depth_nests m d id (collection q ids gs) le = kept_all m d (own_row id d (collection q ids gs)) ids gs refl le

  kept_all : (m : Allowance) (d : ℕ) (p : Row) (ids : Ids) (gs : Trees)
      → is_collection p.kind ≡ true → d + nest_all gs ≤ m.nest
      → Locally (Nests m) (Some p) (member_nodes (suc d) ids gs)
  kept_all m d p ids end e le = tt
  kept_all m d p ids (g ▷ gs) e le =
      let deep : suc d ≤ m.nest = omega arith in
      let test : nat_le (suc d) m.nest ≡ true = grind (arith, nat_tests) in
      let here : nest_kept m (Some p) (own_row (first_id ids) (suc d) g).depth ≡ true =
      rw (own_row-depth (first_id ids) (suc d) g, e) test in
      (here, depth_nests m (suc d) (first_id ids) g (omega arith), kept_all m d p (other_ids ids) gs e (omega arith))

-- each member keeps the nesting
abbrev pub NestAll : Allowance → Trees → Type 0
NestAll m end = ⊤
NestAll m (g ▷ gs) = (nest g ≤ m.nest) × NestAll m gs

-- roots keep the nesting if their rows do
pub roots_nest : (m : Allowance) (gs : Trees) → Locally (Nests m) None (member_nodes 0 None gs) → NestAll m gs
roots_nest m end h = tt
roots_nest m (g ▷ gs) h = (omega (arith, nests_depth m 0 None g (omega arith) h.1), roots_nest m gs h.2)

-- the rows of roots keep the nesting if the roots do
pub nest_roots : (m : Allowance) (gs : Trees) → NestAll m gs → Locally (Nests m) None (member_nodes 0 None gs)
nest_roots m end h = tt
nest_roots m (g ▷ gs) h = (refl, depth_nests m 0 None g (omega (arith, h.0)), nest_roots m gs h.1)

-- ==== Rows are admitted one by one exactly if they are rows of geometries, and they determine the geometries.

-- ---- rows of geometries are admitted, and admitted rows are rows of geometries

-- rows of members are admitted
forest_admitted : (gs : Trees) → AreTrees gs → IsAdmitted (reverse (rows_all gs))
forest_admitted gs t =
    let n = member_nodes 0 None gs in
    let same : past n [] ≡ reverse (rows_all gs) = past-listed n ∙ ap (λ xs. reverse xs) (listed-members 0 None gs) in
    subst IsAdmitted same (rows_admitted n (fit_roots gs t))

-- the geometries of admitted rows
pub admitted_forest : (rs : List Row) → IsAdmitted (reverse rs) → (gs : Trees) × AreTrees gs × (rows_all gs ≡ rs)
admitted_forest rs h =
    let n = forest_of (reverse rs) in
    let all = rebuilt 0 None None n false refl (forest_fits (reverse rs) h) refl in
    let back : reverse (listed n) ≡ reverse rs = sym (past-listed n) ∙ past-forest_of (reverse rs) in
    let same : listed n ≡ rs = sym (reverse-reverse (listed n)) ∙ ap (λ xs. reverse xs) back ∙ reverse-reverse rs in
    (trees_from n, all.trees, sym (listed-members 0 None (trees_from n)) ∙ ap (λ m. listed m) all.nodes ∙ same)

-- rows of geometries are admitted
pub admitted_rows : (rs : List Row) → AreRows rs → IsAdmitted (reverse rs)
admitted_rows rs a = subst (λ xs. IsAdmitted (reverse xs)) (rows_all-trees a.0 ∙ a.2)
    (forest_admitted (trees a.0) (AreTrees-trees a.0 a.1))

-- admitted rows are rows of geometries
pub rows_of_admitted : (rs : List Row) → IsAdmitted (reverse rs) → AreRows rs
rows_of_admitted rs h = let f = admitted_forest rs h in (members f.0, geometries_are f.0 f.1, rows_of-members f.0 ∙ f.2)

-- ---- one more row

-- rows of geometries with one more admitted row are rows of geometries
pub row_admitted : (rs : List Row) (r : Row) → AreRows rs → admits rs r ≡ true → AreRows (rs ++ r ∷ [])
row_admitted rs r a h = rows_of_admitted (rs ++ r ∷ [])
    (subst IsAdmitted (sym (reverse-append rs (r ∷ []))) (h, admitted_rows rs a))

-- the last of the rows of geometries is admitted after the others
pub admits_row : (rs : List Row) (r : Row) → AreRows (rs ++ r ∷ []) → admits rs r ≡ true
admits_row rs r a = (subst IsAdmitted (reverse-append rs (r ∷ [])) (admitted_rows (rs ++ r ∷ []) a)).0

-- ---- prefixes

-- rows before admitted rows are admitted
admitted_tail : (xs ys : List Row) → IsAdmitted (xs ++ ys) → IsAdmitted ys
admitted_tail [] ys h = h
admitted_tail (x ∷ xs) ys h = admitted_tail xs ys h.1

-- a prefix of rows of geometries is rows of geometries
pub rows_front : (front more : List Row) → AreRows (front ++ more) → AreRows front
rows_front front more a = rows_of_admitted front
    (admitted_tail (reverse more) (reverse front)
    (subst IsAdmitted (reverse-append front more) (admitted_rows (front ++ more) a)))

-- ---- rows determine the geometries

-- rows determine members
one_trees : (gs hs : Trees) → AreTrees gs → AreTrees hs → rows_all gs ≡ rows_all hs → gs ≡ hs
one_trees gs hs a b e =
    let m = member_nodes 0 None gs in
    let n = member_nodes 0 None hs in
    let lists : listed m ++ [] ≡ listed n ++ [] =
    append-nil (listed m) ∙ listed-members 0 None gs ∙ e ∙ sym (listed-members 0 None hs)
    ∙ sym (append-nil (listed n)) in
    let same = one_forest 0 None None None None m n [] [] (fit_roots gs a) (fit_roots hs b) tt tt lists in
    sym (trees_back 0 None gs a) ∙ ap (λ k. trees_from k) same.0 ∙ trees_back 0 None hs b

-- rows determine geometries
pub one_reading : (gs hs : List Tree) → AreGeometries gs → AreGeometries hs → rows_of gs ≡ rows_of hs → gs ≡ hs
one_reading gs hs a b e =
    let same = one_trees (trees gs) (trees hs) (AreTrees-trees gs a) (AreTrees-trees hs b)
    (rows_all-trees gs ∙ e ∙ sym (rows_all-trees hs)) in
    sym (members-trees gs) ∙ ap members same ∙ members-trees hs

-- ==== The rows of one geometry: where they begin, continue and end.

-- the row is at this depth or deeper
abbrev pub IsDeeper : ℕ → Row → Type 0
IsDeeper d r = d ≤ r.depth

-- each row is at this depth or deeper
abbrev pub AreDeep : ℕ → List Row → Type 0
AreDeep d rs = AllByRecursion (IsDeeper d) rs

-- the last row of deep rows is deep
deep_end : (d : ℕ) (xs : List Row) (r : Row) → AreDeep d (xs ++ r ∷ []) → d ≤ r.depth
deep_end d [] r h = h.0
deep_end d (x ∷ xs) r h = deep_end d xs r h.1

-- a row between deep rows is deep
deep_mid : (d : ℕ) (xs : List Row) (y : Row) (ys : List Row) → AreDeep d (xs ++ y ∷ ys) → d ≤ y.depth
deep_mid d [] y ys h = h.0
deep_mid d (x ∷ xs) y ys h = deep_mid d xs y ys h.1

-- the rows of a deep forest are deep
deep_listed : (d : ℕ) (n : Nodes) → IsDeep d n → AreDeep d (listed n)
deep_listed d none h = tt
deep_listed d (node r c l) h = (
  h.0,
  all_join (IsDeeper d) (listed c) (listed l)
      (deep_listed d c h.1) (deep_listed d l h.2),
)

-- the rows of a list of one geometry are those of the geometry
pub one_tree : (g : Tree) → rows_of (g ∷ []) ≡ rows 0 g
one_tree g = append-nil (rows 0 g)

-- the rows of a geometry are the root's row and the rows below it
root_rows : (g : Tree) → rows 0 g ≡ own_row None 0 g ∷ listed (tree_below 1 g)
root_rows g = sym (one_tree g) ∙ sym (listed-members 0 None (g ▷ end))
    ∙ ap (λ rs. own_row None 0 g ∷ rs) (append-nil (listed (tree_below 1 g)))

-- the rows below the root are deeper than it
pub below_root : (g : Tree) → IsTree g → (below : List Row) × (rows 0 g ≡ own_row None 0 g ∷ below) × AreDeep 1 below
below_root g t =
    let fit = fit_roots (g ▷ end) (t, tt) in
    let deep = fit_deep 1 (Some (own_row None 0 g)) None (tree_below 1 g) fit.2 in
    (listed (tree_below 1 g), root_rows g, deep_listed 1 (tree_below 1 g) deep)

-- the root's row is at depth 0
root_is_root : (g : Tree) → IsTree g → (own_row None 0 g).depth ≡ 0
root_is_root g t = (fit_roots (g ▷ end) (t, tt)).0

-- the rows of a geometry begin at depth 0
pub root_depth : (g : Tree) (r : Row) (x y : List Row) → IsTree g → rows 0 g ++ x ≡ r ∷ y → r.depth ≡ 0
root_depth g r x y t e =
    let b = below_root g t in
    let w : own_row None 0 g ∷ (b.0 ++ x) ≡ r ∷ y = ap (λ rs. rs ++ x) (sym b.1) ∙ e in
    let head : own_row None 0 g ≡ r = cc w in
    sym (ap (λ (q : Row). q.depth) head) ∙ root_is_root g t

-- the other rows of a geometry are below the root
pub rest_deep : (g : Tree) (r : Row) (rest : List Row) → IsTree g → rows 0 g ≡ r ∷ rest → AreDeep 1 rest
rest_deep g r rest t e =
    let b = below_root g t in
    let w : own_row None 0 g ∷ b.0 ≡ r ∷ rest = sym b.1 ∙ e in
    let tail : b.0 ≡ rest = cc w in
    subst (AreDeep 1) tail b.2

-- rows with no second root are those of one geometry
pub only_root : (gs : List Tree) (r : Row) (rest : List Row) → AreGeometries gs
    → rows_of gs ≡ r ∷ rest → AreDeep 1 rest → (g : Tree) × IsTree g × (gs ≡ g ∷ [])
only_root [] r rest t e deep = cc e
only_root (g ∷ []) r rest t e deep = (g, t.0, refl)
only_root (g ∷ h ∷ hs) r rest t e deep =
    let b = below_root g t.0 in
    let c = below_root h t.1.0 in
    let whole : (own_row None 0 g ∷ b.0) ++ ((own_row None 0 h ∷ c.0) ++ rows_of hs) ≡ r ∷ rest =
    ap (λ rs. rs ++ ((own_row None 0 h ∷ c.0) ++ rows_of hs)) (sym b.1)
    ∙ ap (λ rs. rows 0 g ++ (rs ++ rows_of hs)) (sym c.1) ∙ e in
    let tail : b.0 ++ (own_row None 0 h ∷ (c.0 ++ rows_of hs)) ≡ rest = cc whole in
    let low = deep_mid 1 b.0 (own_row None 0 h) (c.0 ++ rows_of hs) (subst (AreDeep 1) (sym tail) deep) in
    absurd (omega (arith, low, root_is_root h t.1.0))

-- the rows of the only geometry are all rows
rows_of_only : (gs : List Tree) (g : Tree) (rs : List Row) → gs ≡ g ∷ [] → rows_of gs ≡ rs → rows 0 g ≡ rs
rows_of_only gs g rs same e = sym (one_tree g) ∙ ap rows_of (sym same) ∙ e

-- ---- one more row

-- rows of one geometry are rows of geometries
pub as_list : (s : Row) (rs : List Row) → AreRowsOfOne (s ∷ rs) → AreRows (s ∷ rs)
as_list s rs a = (a.0 ∷ [], (a.1, tt), one_tree a.0 ∙ a.2)

-- rows of one geometry with one more admitted row are rows of one geometry
pub one_grows : (rs : List Row) (r : Row) → AreRowsOfOne rs → admits rs r ≡ true → IsOneRoot rs r
    → AreRowsOfOne (rs ++ r ∷ [])
one_grows [] r a h root =
    let grown = row_admitted [] r ([], tt, refl) h in
    let one = only_root grown.0 r [] grown.1 grown.2 tt in
    (one.0, one.1, rows_of_only grown.0 one.0 (r ∷ []) one.2 grown.2)
one_grows (s ∷ rs) r a h root =
    let grown = row_admitted (s ∷ rs) r (as_list s rs a) h in
    let one = only_root grown.0 s (rs ++ r ∷ []) grown.1 grown.2
    (all_join (IsDeeper 1) rs (r ∷ []) (rest_deep a.0 s rs a.1 a.2) (omega arith, tt)) in
    (one.0, one.1, rows_of_only grown.0 one.0 (s ∷ rs ++ r ∷ []) one.2 grown.2)

-- only the first row is a root
pub one_root : (rs : List Row) (r : Row) → AreRowsOfOne (rs ++ r ∷ []) → IsOneRoot rs r
one_root [] r a = root_depth a.0 r [] [] a.1 (append-nil (rows 0 a.0) ∙ a.2)
one_root (s ∷ rs) r a = deep_end 1 rs r (rest_deep a.0 s (rs ++ r ∷ []) a.1 a.2)

-- the last of the rows of one geometry is admitted after the others
pub one_came : (rs : List Row) (r : Row) → AreRowsOfOne (rs ++ r ∷ []) → (admits rs r ≡ true) × IsOneRoot rs r
one_came [] r a = (admits_row [] r (as_list r [] a), one_root [] r a)
one_came (s ∷ rs) r a = (admits_row (s ∷ rs) r (as_list s (rs ++ r ∷ []) a), one_root (s ∷ rs) r a)

-- ---- the end of a geometry's rows

-- the rows of one geometry determine it
pub one_geometry : (g h : Tree) → IsTree g → IsTree h → rows 0 g ≡ rows 0 h → g ≡ h
one_geometry g h a b e =
    let same = one_reading (g ∷ []) (h ∷ []) (a, tt) (b, tt) (one_tree g ∙ e ∙ sym (one_tree h)) in
    let only : g ≡ h = cc in only

-- another geometry whose rows begin with these continues below its root
pub goes_on_below : (g h : Tree) (r : Row) (more : List Row) → IsTree g → IsTree h
    → rows 0 g ++ r ∷ more ≡ rows 0 h → 0 < r.depth
goes_on_below g h r more a b e =
    let c = below_root g a in
    let w : rows 0 h ≡ own_row None 0 g ∷ (c.0 ++ r ∷ more) = sym e ∙ ap (λ rs. rs ++ r ∷ more) c.1 in
    deep_mid 1 c.0 r more (rest_deep h (own_row None 0 g) (c.0 ++ r ∷ more) b w)

-- ==== A geometry ends if the next row is a root, or if there is no next row.

-- the rows below the root fit
below_fits : (g : Tree) → IsTree g → Fit 1 (Some (own_row None 0 g)) None (tree_below 1 g)
below_fits g t = (fit_roots (g ▷ end) (t, tt)).2

-- rows that begin with a root begin above depth 1
above_one : (more : List Row) → IsAtRoot more → IsAbove 1 more
above_one [] h = tt
above_one (r ∷ rs) h = omega (arith, h)

-- the rows of at least one geometry begin with a root, whatever follows them
pub at_root : (g : Tree) (gs : List Tree) (more : List Row) → AreGeometries (g ∷ gs)
    → IsAtRoot (rows_of (g ∷ gs) ++ more)
at_root g gs more h =
    let head : rows_of (g ∷ gs) ++ more ≡ own_row None 0 g
    ∷ ((listed (tree_below 1 g) ++ rows_of gs) ++ more) = ap (λ rs. (rs ++ rows_of gs) ++ more)
    (root_rows g) in
    subst IsAtRoot (sym head) (root_depth g (own_row None 0 g) [] (listed (tree_below 1 g)) h.0
    (append-nil (rows 0 g) ∙ root_rows g))

-- the rows of geometries begin with a root, or there are none
pub roots_first : (gs : List Tree) → AreGeometries gs → IsAtRoot (rows_of gs)
roots_first [] h = tt
roots_first (g ∷ gs) h = subst IsAtRoot (append-nil (rows_of (g ∷ gs))) (at_root g gs [] h)

-- the rows of geometries, and more rows that begin with a root, begin with a root
both_at_root : (gs : List Tree) (more : List Row) → AreGeometries gs → IsAtRoot more → IsAtRoot (rows_of gs ++ more)
both_at_root [] more h root = root
both_at_root (g ∷ gs) more h root = at_root g gs more h

-- equal lists have equal heads and equal tails
tails : (x y : Row) (xs ys : List Row) → x ∷ xs ≡ y ∷ ys → (x ≡ y) × (xs ≡ ys)
tails x y xs ys e = (cc e, cc e)

-- a list with a head is not empty
empty_apart : (x : Row) (xs : List Row) → x ∷ xs ≡ [] → ⊥
empty_apart x xs e = cc e

-- the first of the geometries ends, and the rest are rows of the others
pub first_ended : (g : Tree) (more : List Row) (hs : List Tree) → IsTree g → AreGeometries hs
    → IsAtRoot more → rows 0 g ++ more ≡ rows_of hs → (rest : List Tree) × (hs ≡ g ∷ rest)
    × (rows_of rest ≡ more)
first_ended g more [] t a root e = absurd (empty_apart (own_row None 0 g)
    (listed (tree_below 1 g) ++ more) (ap (λ rs. rs ++ more) (sym (root_rows g)) ∙ e))
first_ended g more (h ∷ hs) t a root e =
    let w : own_row None 0 g ∷ (listed (tree_below 1 g) ++ more) ≡ own_row None 0 h
    ∷ (listed (tree_below 1 h) ++ rows_of hs) =
    ap (λ rs. rs ++ more) (sym (root_rows g)) ∙ e ∙ ap (λ rs. rs ++ rows_of hs) (root_rows h) in
    let two = tails (own_row None 0 g) (own_row None 0 h) (listed (tree_below 1 g) ++ more)
    (listed (tree_below 1 h) ++ rows_of hs) w in
    let same = one_forest 1 (Some (own_row None 0 g)) None (Some (own_row None 0 h)) None
    (tree_below 1 g) (tree_below 1 h) more (rows_of hs) (below_fits g t) (below_fits h a.0)
    (above_one more root) (above_one (rows_of hs) (roots_first hs a.1)) two.1 in
    let first : g ≡ h = one_geometry g h t a.0 (root_rows g
    ∙ ap (λ r. r ∷ listed (tree_below 1 g)) two.0 ∙ ap (λ n. own_row None 0 h ∷ listed n) same.0
    ∙ sym (root_rows h)) in
    (hs, ap (λ k. k ∷ hs) (sym first), sym same.1)

-- the first few geometries end, and the rest are rows of the others
pub first_all_ended : (gs : List Tree) (more : List Row) (hs : List Tree) → AreGeometries gs
    → AreGeometries hs → IsAtRoot more → rows_of gs ++ more ≡ rows_of hs → (rest : List Tree)
    × (hs ≡ gs ++ rest) × (rows_of rest ≡ more)
first_all_ended [] more hs t a root e = (hs, refl, sym e)
first_all_ended (g ∷ gs) more hs t a root e =
    let (rest, first, others) = first_ended g (rows_of gs ++ more) hs t.0 a
    (both_at_root gs more t.1 root) (sym (append_assoc (rows 0 g) (rows_of gs) more) ∙ e) in
    let are : AreGeometries (g ∷ rest) = subst AreGeometries first a in
    let (left, second, last) = first_all_ended gs more rest t.1 are.1 root (sym others) in
    (left, first ∙ ap (λ ks. g ∷ ks) second, last)

-- ==== Sums over the rows of one geometry: along the rows, and over the geometry.

-- the sum over the row and the rows of its geometry before it is at most `most`
abbrev pub Adds : (Row → ℕ) → ℕ → List Row → Row → Type 0
Adds w most before r = weight w (geometry_rows r.depth before) + w r ≤ most

-- the rows back to the root
pub since_root-over : (ys : List Row) (own : Row) (before : List Row) → AreDeep 1 ys → own.depth ≡ 0
    → since_root (ys ++ own ∷ before) ≡ ys ++ own ∷ []
since_root-over [] own before deep e = let t : (own.depth == 0) ≡ true = eq-eqb own.depth 0 e in rw t refl
since_root-over (y ∷ ys) own before deep e =
    let t : (y.depth == 0) ≡ false = ne_eqb y.depth 0 (λ z. omega (arith, deep.0)) in
    rw t (ap (λ rs. y ∷ rs) (since_root-over ys own before deep.1 e))

-- below a root all rows since it are counted
pub geometry_rows-deep : (d : ℕ) (before : List Row) → 1 ≤ d → geometry_rows d before ≡ since_root before
geometry_rows-deep zero before h = absurd (omega arith)
geometry_rows-deep (suc d) before h = refl

-- the sum over joined rows
pub weight-append : (w : Row → ℕ) (xs ys : List Row) → weight w (xs ++ ys) ≡ weight w xs + weight w ys
weight-append w [] ys = omega arith
weight-append w (x ∷ xs) ys = omega (arith, weight-append w xs ys)

-- the sum over the rows before a row below the root
adds_here : (w : Row → ℕ) (y own : Row) (ys before : List Row) → AreDeep 1 (y ∷ ys) → own.depth ≡ 0
    → weight w (geometry_rows y.depth (ys ++ own ∷ before)) ≡ weight w ys + w own
adds_here w y own ys before deep e =
    ap (weight w) (geometry_rows-deep y.depth (ys ++ own ∷ before) deep.0 ∙ since_root-over ys own before deep.1 e)
    ∙ weight-append w ys (own ∷ []) ∙ omega arith

-- for a root there are no rows before it
adds_own : (w : Row → ℕ) (own : Row) (before : List Row) → own.depth ≡ 0 → weight w (geometry_rows own.depth before) ≡ 0
adds_own w own before e = ap (λ d. weight w (geometry_rows d before)) e

-- the sum along the rows of one geometry bounds the sum over it
total_of : (w : Row → ℕ) (most : ℕ) (ys : List Row) (own : Row) (before : List Row) → AreDeep 1 ys
    → own.depth ≡ 0 → Along (Adds w most) (ys ++ own ∷ before) → (weight w ys + w own ≤ most)
    × Along (Adds w most) before
total_of w most [] own before deep e a = (omega (arith, a.0, adds_own w own before e), a.1)
total_of w most (y ∷ ys) own before deep e a =
    (omega (arith, a.0, adds_here w y own ys before deep e), (total_of w most ys own before deep.1 e a.1).1)

-- the sum over one geometry bounds the sums along its rows
of_total : (w : Row → ℕ) (most : ℕ) (ys : List Row) (own : Row) (before : List Row) → AreDeep 1 ys
    → own.depth ≡ 0 → weight w ys + w own ≤ most → Along (Adds w most) before
    → Along (Adds w most) (ys ++ own ∷ before)
of_total w most [] own before deep e le a = (omega (arith, adds_own w own before e), a)
of_total w most (y ∷ ys) own before deep e le a =
    (omega (arith, adds_here w y own ys before deep e), of_total w most ys own before deep.1 e (omega arith) a)

-- reversed rows are as deep
pub deep_reverse : (xs ys : List Row) → AreDeep 1 xs → AreDeep 1 ys → AreDeep 1 (reverse_aux xs ys)
deep_reverse [] ys h g = g
deep_reverse (x ∷ xs) ys h g = deep_reverse xs (x ∷ ys) h.1 (h.0, g)

-- reversed rows have the same sum
pub weight-onto : (w : Row → ℕ) (xs ys : List Row) → weight w (reverse_aux xs ys) ≡ weight w xs + weight w ys
weight-onto w [] ys = omega arith
weight-onto w (x ∷ xs) ys = omega (arith, weight-onto w xs (x ∷ ys))

-- the rows of a geometry, on top of the rows before it
pub record Onto (g : Tree) (before : List Row) : Type 0 where
  pub own : Row
  pub above : List Row
  pub same : reverse_aux (rows 0 g) before ≡ above ++ own ∷ before
  pub deep : AreDeep 1 above
  pub root : own.depth ≡ 0
  pub weighs : (w : Row → ℕ) → weight w above + w own ≡ weight w (rows 0 g)

-- each geometry has its rows on top of the rows before it
onto : (g : Tree) (before : List Row) → IsTree g → Onto g before
onto g before t =
    let b = below_root g t in
    record {
      own = own_row None 0 g;
      above = reverse b.0;
      same = ap (λ rs. reverse_aux rs before) b.1 ∙ reverse_onto b.0 (own_row None 0 g) before;
      deep = deep_reverse b.0 [] b.2 tt;
      root = own_row-depth None 0 g;
      weighs = λ w. (let e = ap (weight w) b.1 in omega (arith, e, weight-onto w b.0 []));
    }

-- the sum over the rows of each member is at most `most`
abbrev pub TotalAll : (Row → ℕ) → ℕ → Trees → Type 0
TotalAll w most end = ⊤
TotalAll w most (g ▷ gs) = (weight w (rows 0 g) ≤ most) × TotalAll w most gs

-- the sum over each member is bounded if the sums along the rows are
pub totals : (w : Row → ℕ) (most : ℕ) (gs : Trees) (before : List Row) → AreTrees gs
    → Along (Adds w most) (reverse_aux (rows_all gs) before) → TotalAll w most gs
    × Along (Adds w most) before
totals w most end before t a = (tt, a)
totals w most (g ▷ gs) before t a =
    let o = onto g before t.0 in
    let split : reverse_aux (rows_all (g ▷ gs)) before ≡ reverse_aux (rows_all gs) (o.above ++ o.own ∷ before) =
    onto-append (rows 0 g) (rows_all gs) before ∙ ap (reverse_aux (rows_all gs)) o.same in
    let rest = totals w most gs (o.above ++ o.own ∷ before) t.1 (subst (Along (Adds w most)) split a) in
    let one = total_of w most o.above o.own before o.deep o.root rest.1 in
    ((omega (arith, one.0, o.weighs w), rest.0), one.1)

-- the sums along the rows are bounded if the sum over each member is
pub of_totals : (w : Row → ℕ) (most : ℕ) (gs : Trees) (before : List Row) → AreTrees gs
    → TotalAll w most gs → Along (Adds w most) before
    → Along (Adds w most) (reverse_aux (rows_all gs) before)
of_totals w most end before t h a = a
of_totals w most (g ▷ gs) before t h a =
    let o = onto g before t.0 in
    let split : reverse_aux (rows_all (g ▷ gs)) before ≡ reverse_aux (rows_all gs) (o.above ++ o.own ∷ before) =
    onto-append (rows 0 g) (rows_all gs) before ∙ ap (reverse_aux (rows_all gs)) o.same in
    subst (Along (Adds w most)) (sym split) (of_totals w most gs (o.above ++ o.own ∷ before) t.1 h.1
    (of_total w most o.above o.own before o.deep o.root (omega (arith, h.0, o.weighs w)) a))

-- ==== No row of a valid geometry is more than two levels below its deepest member.

-- the rows of parts are shallow
shallow_each : {A : Type 0} (n : ℕ) (f : Option ℤ → A → List Row) (ids : Ids) (xs : List A)
    → ((id : Option ℤ) (x : A) → AreShallow n (f id x)) → AreShallow n (rows_of_each f ids xs)
shallow_each n f ids [] h = tt
shallow_each n f ids (x ∷ xs) h = all_join (IsShallow n) (f (first_id ids) x)
    (rows_of_each f (other_ids ids) xs) (h (first_id ids) x) (shallow_each n f (other_ids ids) xs h)

-- the rows of rings at this depth are shallow
shallow_rings : (n d : ℕ) (rings : List (List Point)) → d ≤ n → AreShallow n (ring_rows d rings)
shallow_rings n d rings le = shallow_each n (λ none ring. plain_row d kind.Ring none ring ∷ []) None
    rings (λ id ring. (le, tt))

-- the rows below a simple shape are shallow
shallow_below : (n d : ℕ) (s : Simple) → suc d ≤ n → AreShallow n (rows_below d s)
shallow_below n d (polygon rings) le = shallow_rings n d rings (omega arith)
shallow_below n d (multi_point ids ps) le = let here : d ≤ n = omega arith in
    shallow_each n (λ id p. plain_row d kind.Point id (p ∷ []) ∷ []) ids ps (λ id p. (here, tt))
shallow_below n d (multi_line ids lines) le = let here : d ≤ n = omega arith in
    shallow_each n (λ id ps. plain_row d kind.Linestring id ps ∷ []) ids lines (λ id ps. (here, tt))
shallow_below n d (multi_polygon ids areas) le = let here : d ≤ n = omega arith in
    shallow_each n (polygon_rows d) ids areas (λ id rings. (here, shallow_rings n (suc d) rings le))
shallow_below n d _ le = tt

mutual
  shallow_with : (n d : ℕ) (id : Option ℤ) (g : Tree) → d + nest g + 2 ≤ n → AreShallow n (rows_with id d g)
  shallow_with n d id (simple q s) le = (omega arith, shallow_below n (suc d) s (omega arith))
  shallow_with n d id (collection q ids gs) le = (omega arith, shallow_members n d ids gs le)

  shallow_members : (n d : ℕ) (ids : Ids) (gs : Trees) → d + nest_all gs + 2 ≤ n
      → AreShallow n (member_rows (suc d) ids gs)
  shallow_members n d ids end le = tt
  shallow_members n d ids (g ▷ gs) le =
      let one : suc d + nest g + 2 ≤ n = omega arith in
      let others : d + nest_all gs + 2 ≤ n = omega arith in
      all_join (IsShallow n) (rows_with (first_id ids) (suc d) g)
      (member_rows (suc d) (other_ids ids) gs) (shallow_with n (suc d) (first_id ids) g one)
      (shallow_members n d (other_ids ids) gs others)

-- the rows of a list of valid geometries are shallow
shallow_list : (l : Allowance) (gs : List Tree) → AreValid l gs → AreShallow (l.nest + 2) (rows_of gs)
shallow_list l [] v = tt
shallow_list l (g ∷ gs) v =
    let kept = v.0.nest_kept in
    all_join (IsShallow (l.nest + 2)) (rows 0 g) (rows_of gs)
    (shallow_with (l.nest + 2) 0 None g (omega arith)) (shallow_list l gs v.1)

-- the rows of valid geometries are shallow
pub valid_depths : (l : Allowance) (rs : List Row) → AreValidRows l rs → AreShallow (l.nest + 2) rs
valid_depths l rs v = subst (AreShallow (l.nest + 2)) v.2 (shallow_list l v.0 v.1)
