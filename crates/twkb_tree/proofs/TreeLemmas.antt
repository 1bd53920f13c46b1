-- Trees of shapes and their members, as lists, and lists compared or copied item by item.
use Rattle.std.proofs.Common.{◌≡◌, List, [], ◌∷◌, ◌++◌, length, suc, refl, ap, ℤ, None, subst, sym, ◌∙◌, ℕ, ◌+◌, ◌-◌}
use Rattle.std.proofs.Common.{◌^◌, ◌<◌, min, max, get_or, drop, true, arith, zero, Option, Some, add-one, ◌≤◌, take}
use Rattle.std.proofs.Common.{false, length-append}
use Rattle.std.specs.List.{AllByRecursion}
use Rattle.std.specs.Prelude.{Bool, IsTrue, ◌↔◌, ◌&&◌}
use Rattle.twkb_tree.specs.Tree.{Tree, trees, count, IsTree, AreTrees, members, precision_of, IsPrecision, HasIds}
use Rattle.twkb_tree.specs.Tree.{nest, nest_all, saturated, Ids, simple, collection, Simple, point, line, polygon}
use Rattle.twkb_tree.specs.Tree.{multi_point, multi_line, multi_polygon, Trees, end, ◌▷◌, nodes_in, area_nodes, nodes}
use Rattle.twkb_tree.specs.Tree.{nodes_all}
use Rattle.twkb_tree.specs.declared.kind.Kind.TheVariants as Kind
use Rattle.twkb_points.specs.Point.{Point as Pt}
use Rattle.twkb_tree.specs.Limits.{IsTreeInRange, AreTreesInRange, has_precision, have_precision}
use Rattle.twkb_tree.specs.Shape.{tree_of, HasFitIds, HasTrees, IsShapeInRange}
use Rattle.twkb_tree.specs.declared.geometry.Shape.{Shape}
use Rattle.twkb_tree.specs.declared.geometry.Shape.TheVariants.{Point, Line, Polygon, MultiPoint, MultiLine}
use Rattle.twkb_tree.specs.declared.geometry.Shape.TheVariants.{MultiPolygon, Collection}
use Rattle.std.proofs.lemmas.List.{at_drop_more, take_more_same, take_all, get_or_default, take_more}
use Rattle.twkb_tree.specs.Rows.{Row, first_id, other_ids, ids_from, rows_of_each, rows_with, own_row, member_rows}
use Rattle.twkb_tree.specs.Rows.{rows_under, plain_row, rows_below, polygon_rows}

-- ==== Members as a list and as trees, and lists with one more item.

-- there are as many members as items
pub count-trees : (gs : List Tree) → count (trees gs) ≡ length gs
count-trees [] = refl
count-trees (g ∷ gs) = ap suc (count-trees gs)

-- one more geometry in a list of geometries
pub AreTrees-push : (gs : List Tree) (g : Tree) → AreTrees (trees gs) → IsTree g → AreTrees (trees (gs ++ g ∷ []))
AreTrees-push [] g h s = (s, tt)
AreTrees-push (u ∷ us) g h s = (h.0, AreTrees-push us g h.1 s)

-- one more geometry with its points in range
pub AreTreesInRange-push : (gs : List Tree) (g : Tree) → AreTreesInRange (trees gs)
    → IsTreeInRange g → AreTreesInRange (trees (gs ++ g ∷ []))
AreTreesInRange-push [] g h s = (s, tt)
AreTreesInRange-push (u ∷ us) g h s = (h.0, AreTreesInRange-push us g h.1 s)

-- one more item for which P holds
pub all_push : {X : Type 0} (P : X → Type 0) (xs : List X) (x : X) → AllByRecursion P xs → P x
    → AllByRecursion P (xs ++ x ∷ [])
all_push P [] x h s = (s, tt)
all_push P (y ∷ ys) x h s = (h.0, all_push P ys x h.1 s)

-- ==== What a shape says of its tree, and the tree of its shape.

-- a shape with fitting ids and a precision in range is a geometry
pub IsTree-tree_of : (p : ℤ) (s : Shape) → IsPrecision p → HasFitIds s → HasTrees s → IsTree (tree_of p s)
IsTree-tree_of p (MultiPoint ps ids) small fit are = (small, fit)
IsTree-tree_of p (MultiLine lines ids) small fit are = (small, fit)
IsTree-tree_of p (MultiPolygon areas ids) small fit are = (small, fit)
IsTree-tree_of p (Collection gs ids) small fit are = (small, subst (λ n. HasIds ids n) (sym (count-trees gs)) fit, are)
IsTree-tree_of p _ small fit are = (small, tt)

-- a geometry has fitting ids and a precision in range
pub fit-tree_of : (p : ℤ) (s : Shape) → IsTree (tree_of p s) → IsPrecision p × HasFitIds s
fit-tree_of p (MultiPoint ps ids) t = t
fit-tree_of p (MultiLine lines ids) t = t
fit-tree_of p (MultiPolygon areas ids) t = t
fit-tree_of p (Collection gs ids) t = (t.0, subst (λ n. HasIds ids n) (count-trees gs) t.1)
fit-tree_of p _ t = (t.0, tt)

-- the points of the shape are those of its tree
pub IsTreeInRange-tree_of : (p : ℤ) (s : Shape) → IsShapeInRange s → IsTreeInRange (tree_of p s)
IsTreeInRange-tree_of p (Point None) h = tt
IsTreeInRange-tree_of p _ h = h

-- a list turned into members and back is the list
members-trees : (gs : List Tree) → members (trees gs) ≡ gs
members-trees [] = refl
members-trees (g ∷ gs) = ap (λ (l : List Tree). g ∷ l) (members-trees gs)

-- lists with the same members are equal
trees_inj : (gs hs : List Tree) → trees gs ≡ trees hs → gs ≡ hs
trees_inj gs hs e = sym (members-trees gs) ∙ ap members e ∙ members-trees hs

-- shapes with the same tree are equal
tree_of-shape : (p q : ℤ) (s t : Shape) → tree_of p s ≡ tree_of q t → s ≡ t
tree_of-shape p q (Point a) (Point b) e = cc
tree_of-shape p q (Line a) (Line b) e = cc
tree_of-shape p q (Polygon a) (Polygon b) e = cc
tree_of-shape p q (MultiPoint a is) (MultiPoint b js) e = cc
tree_of-shape p q (MultiLine a is) (MultiLine b js) e = cc
tree_of-shape p q (MultiPolygon a is) (MultiPolygon b js) e = cc
tree_of-shape p q (Collection gs is) (Collection hs js) e =
    let same_trees : trees gs ≡ trees hs = cc in
    let same_members = trees_inj gs hs same_trees in
    let same_ids : is ≡ js = cc in
    λ i. Collection (same_members i) (same_ids i)
tree_of-shape p q _ _ e = cc

-- trees of the same precision are equal exactly if their shapes are
pub same_trees : (g h : Tree) (s t : Shape) (r : Bool) → precision_of g ≡ precision_of h
    → tree_of (precision_of g) s ≡ g → tree_of (precision_of h) t ≡ h → (IsTrue r ↔ (s ≡ t))
    → IsTrue r ↔ (g ≡ h)
same_trees g h s t r same_precision g_is h_is same_shape = (
  λ so. sym g_is ∙ (λ i. tree_of (same_precision i) (same_shape.0 so i)) ∙ h_is,
  λ (e : g ≡ h). same_shape.1 (tree_of-shape (precision_of g) (precision_of h) s t (g_is ∙ e ∙ sym h_is)),
)

-- ==== One more member of a collection, in the count of levels and in the test of precisions.

-- one more level, capped twice at the top
one_more : (levels below up top : ℕ) → below ≡ min levels top → up ≡ min (below + 1) top → up ≡ min (suc levels) top
one_more levels below up top below_is up_is = omega arith

-- capping a maximum once more changes nothing
stopped : (levels left top : ℕ) → min (max (min levels top) left) top ≡ min (max levels left) top
stopped levels left top = omega arith

-- two numbers equal under a cap stay equal under it after a maximum with a third
stopped_with : (deepest a b top : ℕ) → min a top ≡ min b top → min (max deepest a) top ≡ min (max deepest b) top
stopped_with deepest a b top e = omega arith

-- the maximum of three numbers does not depend on the order
regrouped : (a b c : ℕ) → max (max a b) c ≡ max a (max b c)
regrouped a b c = omega arith

-- the levels so far and those of one more member, capped at the greatest u64
levels_joined : (deepest levels below up next left top : ℕ) → below ≡ min levels top
    → up ≡ min (below + 1) top → next ≡ max deepest up
    → min (max next left) top ≡ min (max deepest (max (suc levels) left)) top
levels_joined deepest levels below up next left top below_is up_is next_is =
    ap (λ (n : ℕ). min (max n left) top) (next_is ∙ ap (max deepest) (one_more levels below up top below_is up_is))
    ∙ ap (λ (n : ℕ). min n top) (regrouped deepest (min (suc levels) top) left)
    ∙ stopped_with deepest (max (min (suc levels) top) left) (max (suc levels) left) top (stopped (suc levels) left top)

-- the levels of one more member
pub levels_step : (xs : List Tree) (i : ℕ) (x : Tree) (deepest below up next whole : ℕ)
    → i < length xs → x ≡ get_or xs i x → below ≡ saturated (nest x)
    → up ≡ min (below + 1) (2 ^ 64 - 1) → next ≡ max deepest up
    → saturated (max deepest (nest_all (trees (drop i xs)))) ≡ whole
    → saturated (max next (nest_all (trees (drop (i + 1) xs)))) ≡ whole
levels_step xs i x deepest below up next whole here is below_is up_is next_is before =
    let left = nest_all (trees (drop (i + 1) xs)) in
    let a = at_drop_more (λ l. nest_all (trees l)) xs i x here in
    let b = levels_joined deepest (nest x) below up next left (2 ^ 64 - 1) below_is up_is next_is in
    b ∙ ap (λ (y : Tree). saturated (max deepest (max (suc (nest y)) left))) is
    ∙ sym (ap (λ (n : ℕ). saturated (max deepest n)) a) ∙ before

-- one more member with a precision
pub precision_step : (p : ℤ) (xs : List Tree) (i : ℕ) (x : Tree) (whole : Bool) → i < length xs
    → x ≡ get_or xs i x → true ≡ has_precision p x
    → have_precision p (trees (drop i xs)) ≡ whole → have_precision p (trees (drop (i + 1) xs)) ≡ whole
precision_step p xs i x whole here is has before =
    let left = have_precision p (trees (drop (i + 1) xs)) in
    let a = at_drop_more (λ l. have_precision p (trees l)) xs i x here in
    ap (λ (b : Bool). b && left) (has ∙ ap (has_precision p) is) ∙ sym a ∙ before

-- ==== Members with their ids, one after another, and the rows below a geometry's own.

-- the ids of the members after one
pub other_from : (i : ℕ) (ids : Ids) → other_ids (ids_from i ids) ≡ ids_from (suc i) ids
other_from i None = refl
other_from zero (Some []) = refl
other_from (suc i) (Some (id ∷ ids)) = other_from i (Some ids)
other_from _ (Some _) = refl

-- the ids from place 0 on are all ids
pub ids_from_start : (ids : Ids) → ids_from 0 ids ≡ ids
ids_from_start None = refl
ids_from_start (Some ids) = refl

-- the rows of a member and of the members after it
pub each_next : {A : Type 0} (f : Option ℤ → A → List Row) (ids : Ids) (xs : List A) (i : ℕ) (x : A)
    → i < length xs → x ≡ get_or xs i x
    → rows_of_each f (ids_from i ids) (drop i xs) ≡ f (first_id (ids_from i ids)) x ++ rows_of_each
    f (ids_from (i + 1) ids) (drop (i + 1) xs)
each_next f ids xs i x within read =
    ap (rows_of_each f (ids_from i ids)) (at_drop_more (λ ys. ys) xs i x within
    ∙ ap (λ y. y ∷ drop (i + 1) xs) (sym read))
    ∙ ap (λ js. f (first_id (ids_from i ids)) x ++ rows_of_each f js (drop (i + 1) xs))
    (other_from i ids ∙ ap (λ j. ids_from j ids) (sym (add-one i)))

-- the rows of members, one member at a time
pub member_rows_each : (d : ℕ) (ids : Ids) (gs : List Tree)
    → rows_of_each (λ id g. rows_with id d g) ids gs ≡ member_rows d ids (trees gs)
member_rows_each d ids [] = refl
member_rows_each d ids (g ∷ gs) = ap (λ rs. rows_with (first_id ids) d g ++ rs) (member_rows_each d (other_ids ids) gs)

-- a geometry's own row comes before the others
pub own_row_first : (id : Option ℤ) (d : ℕ) (g : Tree) → rows_with id d g ≡ own_row id d g ∷ rows_under (suc d) g
own_row_first id d (simple p s) = refl
own_row_first id d (collection p ids gs) = refl

-- a member is in one collection more than its collection
pub nest_member : (gs : List Tree) (i : ℕ) (g : Tree) → i < length gs → g ≡ get_or gs i g → nest g < nest_all (trees gs)
nest_member [] i g within read = absurd (omega arith)
nest_member (u ∷ us) zero g within read = rw read (omega arith)
nest_member (u ∷ us) (suc i) g within read = omega (arith, nest_member us i g (omega arith) read)

-- the rows below a geometry's own, by its shape
pub under_shape : (d : ℕ) (p : ℤ) (shape told : Shape) (g : Tree) → tree_of p shape ≡ g
    → shape ≡ told → rows_under d (tree_of p told) ≡ rows_under d g
under_shape d p shape told g whole is = ap (λ (s : Shape). rows_under d (tree_of p s)) (sym is)
    ∙ ap (rows_under d) whole

-- ==== A geometry has as many rows as nodes.

-- each item gives one row, so there are as many rows as items
length-rows_of_one : {A : Type 0} (f : Option ℤ → A → Row) (ids : Ids) (xs : List A)
    → length (rows_of_each (λ id x. f id x ∷ []) ids xs) ≡ length xs
length-rows_of_one f ids [] = omega arith
length-rows_of_one f ids (x ∷ xs) = omega (arith, length-rows_of_one f (other_ids ids) xs)

length-polygon_rows : (d : ℕ) (ids : Ids) (areas : List (List (List Pt)))
    → length (rows_of_each (polygon_rows d) ids areas) ≡ area_nodes areas
length-polygon_rows d ids [] = omega arith
length-polygon_rows d ids (a ∷ others) =
    omega (
      arith,
      length-append (polygon_rows d (first_id ids) a)
          (rows_of_each (polygon_rows d) (other_ids ids) others),
      length-rows_of_one (λ id ring. plain_row (suc d) Kind.Ring id ring) None a,
      length-polygon_rows d (other_ids ids) others,
    )

length-rows_below : (d : ℕ) (s : Simple) → length (rows_below d s) + 1 ≡ nodes_in s
length-rows_below d (point o) = omega arith
length-rows_below d (line ps) = omega arith
length-rows_below d (polygon rings) = omega
    (arith, length-rows_of_one (λ id ring. plain_row d Kind.Ring id ring) None rings)
length-rows_below d (multi_point ids ps) = omega
    (arith, length-rows_of_one (λ id p. plain_row d Kind.Point id (p ∷ [])) ids ps)
length-rows_below d (multi_line ids lines) = omega
    (arith, length-rows_of_one (λ id ps. plain_row d Kind.Linestring id ps) ids lines)
length-rows_below d (multi_polygon ids areas) = omega (arith, length-polygon_rows d ids areas)

mutual
  pub length-rows_with : (id : Option ℤ) (d : ℕ) (g : Tree) → length (rows_with id d g) ≡ nodes g
  length-rows_with id d (simple p s) = omega (arith, length-rows_below (suc d) s)
  length-rows_with id d (collection p ids gs) = omega (arith, length-member_rows (suc d) ids gs)

  length-member_rows : (d : ℕ) (ids : Ids) (gs : Trees) → length (member_rows d ids gs) ≡ nodes_all gs
  length-member_rows d ids end = omega arith
  length-member_rows d ids (g ▷ gs) =
      omega (
        arith,
        length-append (rows_with (first_id ids) d g) (member_rows d (other_ids ids) gs),
        length-rows_with (first_id ids) d g,
        length-member_rows d (other_ids ids) gs,
      )

pub ruleset row_counts = (length-rows_with)

-- ==== Two lists, compared pair by pair.

-- one more pair of equal items
pub take_pair : {X : Type 0} (xs ys : List X) (i : ℕ) (a b : X) → i < length xs → i < length ys
    → a ≡ get_or xs i a → b ≡ get_or ys i b → a ≡ b → take i xs ≡ take i ys
    → take (i + 1) xs ≡ take (i + 1) ys
take_pair xs ys i a b h k a_is b_is e before =
    take_more_same xs ys i a h k before (sym a_is ∙ e ∙ b_is ∙ get_or_default ys i b a k)

-- a pair of equal lists
pub pair_same : {X : Type 0} (xs ys : List X) (i : ℕ) (a b : X) → i < length xs → a ≡ get_or xs i a
    → b ≡ get_or ys i b → xs ≡ ys → a ≡ b
pair_same {X} xs ys i a b h a_is b_is e =
    a_is ∙ get_or_default xs i a b h ∙ ap (λ (l : List X). get_or l i b) e ∙ sym b_is

-- two lists that are equal as far as both go
pub lists_same : {X : Type 0} (xs ys a b : List X) (i : ℕ) → take i xs ≡ take i ys
    → length xs ≡ length ys → length xs ≤ i → xs ≡ a → ys ≡ b → IsTrue true ↔ (a ≡ b)
lists_same xs ys a b i before same_length at_end xs_is ys_is =
    (λ _. sym xs_is ∙ sym (take_all i xs at_end) ∙ before ∙ take_all i ys (omega arith) ∙ ys_is, λ _. refl)

-- two lists with a pair of different items are different
pub lists_apart : {X : Type 0} (xs ys a b : List X) (i : ℕ) (x y : X) → i < length xs
    → x ≡ get_or xs i x → y ≡ get_or ys i y → (x ≡ y → IsTrue false) → xs ≡ a → ys ≡ b
    → IsTrue false ↔ (a ≡ b)
lists_apart xs ys a b i x y here x_is y_is apart xs_is ys_is =
    (λ no. cc, λ e. apart (pair_same xs ys i x y here x_is y_is (xs_is ∙ e ∙ sym ys_is)))

-- two lists of different lengths are different
pub lists_of_two_lengths : {X : Type 0} (xs ys a b : List X) → (length xs ≡ length ys → ⊥) → xs ≡ a
    → ys ≡ b → IsTrue false ↔ (a ≡ b)
lists_of_two_lengths xs ys a b differ xs_is ys_is =
    (λ no. cc, λ e. absurd (differ (ap length (xs_is ∙ e ∙ sym ys_is))))

-- ==== A list copied item by item.

-- one more item is copied
pub copied_more : {X : Type 0} (xs items more : List X) (i : ℕ) (item copy : X) → items ≡ take i xs
    → i < length xs → item ≡ get_or xs i item → copy ≡ item → more ≡ items ++ copy ∷ []
    → more ≡ take (i + 1) xs
copied_more xs items more i item copy before here item_is copied pushed =
    pushed ∙ (λ j. before j ++ (copied ∙ item_is) j ∷ []) ∙ sym (take_more xs i item here)

-- all items are copied
pub copied_all : {X : Type 0} (xs items : List X) (i : ℕ) → items ≡ take i xs → length xs ≤ i → items ≡ xs
copied_all xs items i before at_end = before ∙ take_all i xs at_end
