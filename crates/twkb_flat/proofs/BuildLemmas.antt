-- The rows of a geometry, and the geometry that is built from rows.
use Rattle.std.proofs.Common.{◌≡◌, ℕ, zero, suc, ◌+◌, ◌<◌, List, [], ◌∷◌, ◌++◌, length, drop, Option, None, Some}
use Rattle.std.proofs.Common.{refl, sym, ◌∙◌, ap, subst, append_assoc, append-nil, add-one, arith, ◌≤◌, get_or, ◌⊎◌}
use Rattle.std.proofs.Common.{inl, inr}
use Rattle.std.specs.Prelude.{ℤ, ⊤, slice_get, Result, OnOk}
use Rattle.std.specs.List.{AllByRecursion}
use Rattle.std.proofs.lemmas.List.{length-append, drop_all}
use Rattle.twkb_points.specs.Point.{Point}
use Rattle.twkb_tree.specs.Tree.{Ids, HasIds, point, line, polygon, multi_point, multi_line, multi_polygon, Tree}
use Rattle.twkb_tree.specs.Tree.{Trees, Simple, simple, collection, end, ◌▷◌, trees, members, precision_of, IsTree}
use Rattle.twkb_tree.specs.Tree.{IsPrecision}
use Rattle.twkb_tree.specs.declared.kind.Kind.{Kind}
use Rattle.twkb_tree.specs.Rows.{Row, first_id, other_ids, rows_of_each, plain_row, own_row, rows_with, rows_under}
use Rattle.twkb_tree.specs.Rows.{rows, ring_rows, rows_below, IsAbove, AreValidRowsOfOne, ids_from, member_rows}
use Rattle.twkb_tree.specs.Rows.{AreShallow}
use Rattle.twkb_tree.specs.declared.kind.Kind.TheVariants as kind
use Rattle.twkb_tree.specs.Limits.{Allowance, IsValid, largest_limits}
use Rattle.twkb_tree.specs.declared.geometry.Shape.{Shape}
use Rattle.twkb_tree.specs.Shape.{HasFitIds, tree_of}
use Rattle.twkb_tree.proofs.TreeLemmas.{own_row_first, member_rows_each, each_next, ids_from_start, under_shape}
use Rattle.twkb_tree.proofs.TreeLemmas.{fit-tree_of}
use Rattle.twkb_tree.proofs.RowSteps.{own_row-depth, own_row-id, above_less, length-members}
use Rattle.twkb_tree.proofs.RowForest.{point_in}
use Rattle.twkb_tree.proofs.RowLaws.{geometries_are, valid_depths}
use Rattle.twkb_flat.specs.Taking.{component_rows, IsAt, OneAt, EachAt, ids_in, id_list, TreeAt, IsAny, AreOf}
use Rattle.twkb_flat.specs.Taking.{ComponentsAt, IsSimple}
use Rattle.twkb_flat.specs.declared.node.Row.{Row as FlatRow}
use Rattle.twkb_flat.specs.Rows.{row_with, row_depth_cap}
use Rattle.twkb_tree.specs.Admits.{Continues}
use Rattle.twkb_tree.proofs.LimitLaws.{valid_list, continues_row, one_valid_front}

-- ==== Items taken from rows, one after another.

-- dropping one more row
drop_suc : (rows : List Row) (at : ℕ) (r : Row) (more : List Row) → drop at rows ≡ r ∷ more → drop (suc at) rows ≡ more
drop_suc [] zero r more e = cc e
drop_suc (s ∷ rows) (suc at) r more e = drop_suc rows at r more e
drop_suc _ _ r more e = cc e

-- dropping one more row, with the place as a sum
pub drop_more : (rows : List Row) (at : ℕ) (r : Row) (more : List Row) → drop at rows ≡ r ∷ more
    → drop (at + 1) rows ≡ more
drop_more rows at r more e = ap (λ k. drop k rows) (add-one at) ∙ drop_suc rows at r more e

-- rows at a place mean that the place is before the end
pub within : (rows : List Row) (at : ℕ) (r : Row) (more : List Row) → drop at rows ≡ r ∷ more → at < length rows
within [] zero r more e = cc e
within [] (suc at) r more e = cc e
within (s ∷ rows) zero r more e = omega arith
within (s ∷ rows) (suc at) r more e = omega (arith, within rows at r more e)

-- the rows of an item begin with a row at this depth that has its id
abbrev pub Heads : {A : Type 0} → (Option ℤ → A → List Row) → ℕ → Type 0
Heads {A} f d = (id : Option ℤ) (x : A) → (r : Row) × (more : List Row) × (f id x ≡ r ∷ more)
    × (r.depth ≡ d) × (r.id ≡ id)

-- the first row of an item, among all rows
pub head_at : {A : Type 0} (sound : A → Type 0) (f : Option ℤ → A → List Row) (rows : List Row)
    (at d : ℕ) (id : Option ℤ) (x : A) (rest : List Row) → Heads f d
    → OneAt sound f rows at d id x rest
    → (r : Row) × (more : List Row) × (drop at rows ≡ r ∷ more) × (r.depth ≡ d) × (r.id ≡ id)
head_at sound f rows at d id x rest heads it =
    let h = heads id x in
    (h.0, h.1 ++ rest, it.here ∙ ap (λ rs. rs ++ rest) h.2, h.3, h.4)

-- the place of an item is before the end
pub item_within : {A : Type 0} (sound : A → Type 0) (f : Option ℤ → A → List Row) (rows : List Row)
    (at d : ℕ) (id : Option ℤ) (x : A) (rest : List Row) → Heads f d
    → OneAt sound f rows at d id x rest → at < length rows
item_within sound f rows at d id x rest heads it =
    let h = head_at sound f rows at d id x rest heads it in
    within rows at h.0 h.1 h.2

-- the id read there is the item's
pub read_id : {A : Type 0} (sound : A → Type 0) (f : Option ℤ → A → List Row) (rows : List Row)
    (at d : ℕ) (id read : Option ℤ) (x : A) (rest : List Row) → Heads f d
    → OneAt sound f rows at d id x rest → ((r : Row) (more : List Row) → drop at rows ≡ r ∷ more
    → read ≡ r.id) → read ≡ id
read_id sound f rows at d id read x rest heads it told =
    let h = head_at sound f rows at d id x rest heads it in
    told h.0 h.1 h.2 ∙ h.4

-- the rows of a component begin with its own row
pub component_heads : {A : Type 0} (own : A → List Point) (below : ℕ → A → List Row) (k : Kind) (d : ℕ)
    → Heads (component_rows own below k d) d
component_heads own below k d = λ id x. (plain_row d k id (own x), below (suc d) x, refl, refl, refl)

-- the rows of a geometry begin with its own row
pub tree_heads : (d : ℕ) → Heads (λ id g. rows_with id d g) d
tree_heads d = λ id g. (
  own_row id d g,
  rows_under (suc d) g,
  own_row_first id d g,
  own_row-depth id d g,
  own_row-id id d g,
)

-- the place of a geometry is before the end
pub tree_within : (rows : List Row) (at d : ℕ) (id : Option ℤ) (g : Tree) (rest : List Row)
    → TreeAt rows at d id g rest → at < length rows
tree_within rows at d id g rest it =
    item_within IsTree (λ i h. rows_with i d h) rows at d id g rest (tree_heads d) it

-- ---- ids

-- the numbers of the ids
abbrev pub numbers : Ids → List ℤ
numbers None = []
numbers (Some ids) = ids

-- there are as many ids as items, or none
abbrev pub AreFor : Ids → ℕ → Type 0
AreFor None n = ⊤
AreFor (Some ids) n = length ids ≡ n

-- the ids of members are as many
are_for : (ids : Ids) (n : ℕ) → HasIds ids n → AreFor ids n
are_for None n h = tt
are_for (Some ids) n h = h.1

-- the ids for the items after the first
others_for : (ids : Ids) (n : ℕ) → AreFor ids (suc n) → AreFor (other_ids ids) n
others_for None n h = tt
others_for (Some []) n h = absurd (omega arith)
others_for (Some (id ∷ ids)) n h = omega arith

-- the first number, and the numbers after it
first_number : (ids : Ids) (n : ℕ) → AreFor ids (suc n)
    → numbers ids ≡ id_list (first_id ids) ++ numbers (other_ids ids)
first_number (Some []) n h = absurd (omega arith)
first_number _ n h = refl

-- there are no numbers for no items
no_numbers : (ids : Ids) → AreFor ids 0 → numbers ids ≡ []
no_numbers (Some (id ∷ ids)) h = absurd (omega arith)
no_numbers _ h = refl

-- the ids made from their numbers are the ids
pub ids_again : (ids : Ids) (n : ℕ) → HasIds ids n → ids_in (numbers ids) ≡ ids
ids_again (Some []) n h = absurd (omega (arith, h.0, h.1))
ids_again _ n h = refl

-- ---- items

-- these items and numbers were taken, and the others are at the place
pub record Left {A : Type 0} (sound : A → Type 0) (f : Option ℤ → A → List Row) (rows : List Row)
    (ids : Ids) (xs : List A) (rest : List Row) (at : ℕ) (items : List A)
    (found : List ℤ) : Type 0 where
  pub others : List A
  pub other_ids : Ids
  pub are_sound : AllByRecursion sound others
  pub ids_for : AreFor other_ids (length others)
  pub all : xs ≡ items ++ others
  pub all_ids : numbers ids ≡ found ++ numbers other_ids
  pub here : drop at rows ≡ rows_of_each f other_ids others ++ rest

-- at first all items are left
pub left_all : {A : Type 0} (sound : A → Type 0) (f : Option ℤ → A → List Row) (rows : List Row)
    (at d : ℕ) (ids : Ids) (xs : List A) (rest : List Row) → EachAt sound f rows at d ids xs rest
    → (items : List A) (found : List ℤ) → items ≡ [] → found ≡ []
    → Left sound f rows ids xs rest at items found
left_all sound f rows at d ids xs rest each items found none no_ids = record {
  others = xs;
  other_ids = ids;
  are_sound = each.are_sound;
  ids_for = are_for ids (length xs) each.ids_fit;
  all = ap (λ ys. ys ++ xs) (sym none);
  all_ids = ap (λ ns. ns ++ numbers ids) (sym no_ids);
  here = each.here;
}

-- the rows after an item are not below it
behind_item : {A : Type 0} (f : Option ℤ → A → List Row) (d : ℕ) (ids : Ids) (xs : List A)
    (rest : List Row) → Heads f d → IsAbove d rest → IsAbove (suc d) (rows_of_each f ids xs ++ rest)
behind_item f d ids [] rest heads above = above_less d rest above
behind_item f d ids (x ∷ xs) rest heads above =
    let h = heads (first_id ids) x in
    subst (λ rs. IsAbove (suc d) ((rs ++ rows_of_each f (other_ids ids) xs) ++ rest)) (sym h.2) (omega (arith, h.3))

-- the next item, and the items left after it
pub record Next {A : Type 0} (sound : A → Type 0) (f : Option ℤ → A → List Row) (rows : List Row)
    (d : ℕ) (ids : Ids) (xs : List A) (rest : List Row) (at : ℕ) (items : List A)
    (found : List ℤ) : Type 0 where
  pub id : Option ℤ
  pub item : A
  pub after : List Row
  pub stands : OneAt sound f rows at d id item after
  pub step : (got : A) (next : ℕ) (more : List A) (now : List ℤ) (read : Option ℤ) → got ≡ item
      → drop next rows ≡ after → more ≡ items ++ got ∷ [] → now ≡ found ++ id_list read → read ≡ id
      → Left sound f rows ids xs rest next more now

-- rows can't be both above a depth and at it
not_both : (d : ℕ) (rows : List Row) → IsAbove d rows → IsAt d rows → ⊥
not_both d [] above at = at
not_both d (r ∷ rows) above at = omega arith

-- a row at the depth is that of a next item
pub left_next : {A : Type 0} (sound : A → Type 0) (f : Option ℤ → A → List Row) (rows : List Row)
    (d : ℕ) (ids : Ids) (xs : List A) (rest : List Row) (at : ℕ) (items : List A) (found : List ℤ)
    → Heads f d → IsAbove d rest → Left sound f rows ids xs rest at items found
    → IsAt d (drop at rows) → Next sound f rows d ids xs rest at items found
left_next sound f rows d ids xs rest at items found heads above left is = elim left.others as
    (λ os. AllByRecursion sound os → AreFor left.other_ids (length os) → xs ≡ items ++ os
    → drop at rows ≡ rows_of_each f left.other_ids os ++ rest
    → Next sound f rows d ids xs rest at items found) [
      | [] ↦ λ s i a e. absurd (not_both d rest above (subst (IsAt d) e is))
      | x ∷ os ↦ λ s i a e. record {
        id = first_id left.other_ids;
        item = x;
        after = rows_of_each f (other_ids left.other_ids) os ++ rest;
        stands = record {
          is_sound = s.0;
          behind = behind_item f d (other_ids left.other_ids) os rest
              heads above;
          here = e ∙ append_assoc (f (first_id left.other_ids) x)
              (rows_of_each f (other_ids left.other_ids) os) rest;
        };
        step = λ got next more now read same dropped grown numbered told. record {
          others = os;
          other_ids = other_ids left.other_ids;
          are_sound = s.1;
          ids_for = others_for left.other_ids (length os) i;
          all = a ∙ ap (λ y. items ++ y ∷ os) (sym same) ∙ sym (append_assoc items (got ∷ []) os)
              ∙ ap (λ ys. ys ++ os) (sym grown);
          all_ids = left.all_ids ∙ ap (λ ns. found ++ ns) (first_number left.other_ids (length os) i)
              ∙ sym (append_assoc found (id_list (first_id left.other_ids))
              (numbers (other_ids left.other_ids)))
              ∙ ap (λ k. (found ++ id_list k) ++ numbers (other_ids left.other_ids)) (sym told)
              ∙ ap (λ ns. ns ++ numbers (other_ids left.other_ids)) (sym numbered);
          here = dropped;
        };
      }
    ] left.are_sound left.ids_for left.all left.here

-- the rows of the item there begin at its depth
first_is_at : {A : Type 0} (f : Option ℤ → A → List Row) (d : ℕ) (ids : Ids) (x : A) (os : List A)
    (rest : List Row) → Heads f d → IsAt d (rows_of_each f ids (x ∷ os) ++ rest)
first_is_at f d ids x os rest heads =
    let h = heads (first_id ids) x in
    subst (λ rs. IsAt d ((rs ++ rows_of_each f (other_ids ids) os) ++ rest)) (sym h.2) h.3

-- all items were taken
pub record Done {A : Type 0} (rows : List Row) (ids : Ids) (xs : List A) (rest : List Row) (at : ℕ)
    (items : List A) (found : List ℤ) : Type 0 where
  pub items_are : items ≡ xs
  pub ids_are : ids_in found ≡ ids
  pub behind : drop at rows ≡ rest

-- no row at the depth means that all items were taken
pub left_none : {A : Type 0} (sound : A → Type 0) (f : Option ℤ → A → List Row) (rows : List Row)
    (d : ℕ) (ids : Ids) (xs : List A) (rest : List Row) (at : ℕ) (items : List A) (found : List ℤ)
    → Heads f d → HasIds ids (length xs) → Left sound f rows ids xs rest at items found
    → (IsAt d (drop at rows) → ⊥) → Done rows ids xs rest at items found
left_none sound f rows d ids xs rest at items found heads fit left isnt = elim left.others as
    (λ os. AreFor left.other_ids (length os) → xs ≡ items ++ os
    → drop at rows ≡ rows_of_each f left.other_ids os ++ rest
    → Done rows ids xs rest at items found) [
      | [] ↦ λ i a e. record {
        items_are = sym (append-nil items) ∙ sym a;
        ids_are = ap ids_in (sym (append-nil found) ∙ ap (λ ns. found ++ ns)
            (sym (no_numbers left.other_ids i)) ∙ sym left.all_ids) ∙ ids_again ids (length xs) fit;
        behind = e;
      }
      | x ∷ os ↦ λ i a e. absurd (isnt (subst (IsAt d) (sym e) (first_is_at f d left.other_ids x os rest heads)))
    ] left.ids_for left.all left.here

-- an item has at least one row
pub shorter : {A : Type 0} (sound : A → Type 0) (f : Option ℤ → A → List Row) (rows : List Row)
    (at d : ℕ) (id : Option ℤ) (x : A) (rest : List Row) (next : ℕ) → Heads f d
    → OneAt sound f rows at d id x rest → drop next rows ≡ rest
    → length (drop next rows) < length (drop at rows)
shorter sound f rows at d id x rest next heads it dropped =
    let h = heads id x in
    omega (arith, ap length dropped, ap length it.here, length-append (f id x) rest, ap length h.2)

-- ==== The parts of a geometry, and its kind by the kind of its own row.

-- ---- the members of a collection

-- the ids of a collection's members
abbrev pub ids_below : Tree → Ids
ids_below (collection p ids gs) = ids
ids_below _ = None

-- the geometries of a collection
abbrev pub members_below : Tree → List Tree
members_below (collection p ids gs) = members gs
members_below _ = []

-- members turned into a list and back are the members
trees-members : (gs : Trees) → trees (members gs) ≡ gs
trees-members end = refl
trees-members (g ▷ gs) = ap (λ hs. g ▷ hs) (trees-members gs)

-- ---- the shape of a geometry by the kind of its row

-- a geometry whose row is a point's is a point
pub is_point : (id : Option ℤ) (d : ℕ) (g : Tree) → (own_row id d g).kind ≡ kind.Point
    → simple (precision_of g) (point (point_in (own_row id d g).points)) ≡ g
is_point id d (simple p (point None)) e = refl
is_point id d (simple p (point (Some q))) e = refl
is_point id d _ e = cc e

-- a geometry whose row is a linestring's is a linestring
pub is_line : (id : Option ℤ) (d : ℕ) (g : Tree) → (own_row id d g).kind ≡ kind.Linestring
    → simple (precision_of g) (line (own_row id d g).points) ≡ g
is_line id d (simple p (line ps)) e = refl
is_line id d _ e = cc e

-- the geometry is made of these ids and parts, whose rows come below its own
pub record IsMade {A : Type 0} (own : A → List Point) (below : ℕ → A → List Row) (part : Kind)
    (make : Ids → List A → Simple) (d : ℕ) (g : Tree) : Type 0 where
  pub ids : Ids
  pub parts : List A
  pub whole : simple (precision_of g) (make ids parts) ≡ g
  pub ids_fit : HasIds ids (length parts)
  pub rows_are : rows_under (suc d) g ≡ rows_of_each (component_rows own below part (suc d)) ids
      parts

-- a geometry of this kind is made of such parts
abbrev pub AreMade : {A : Type 0} → (A → List Point) → (ℕ → A → List Row) → Kind
    → (Ids → List A → Simple)
    → Kind → Type 0
AreMade own below part make k =
    (id : Option ℤ) (d : ℕ) (g : Tree) → IsTree g → (own_row id d g).kind ≡ k
    → IsMade own below part make d g

-- a shape is made of its parts
is_made : {A : Type 0} (own : A → List Point) (below : ℕ → A → List Row) (part : Kind)
    (make : Ids → List A → Simple) (d : ℕ) (p : ℤ) (ids : Ids) (parts : List A)
    → HasIds ids (length parts)
    → rows_below (suc d) (make ids parts) ≡ rows_of_each (component_rows own below part (suc d)) ids
    parts
    → IsMade own below part make d (simple p (make ids parts))
is_made own below part make d p ids parts fit are =
    record { ids = ids; parts = parts; whole = refl; ids_fit = fit; rows_are = are }

-- a polygon is made of rings
pub of_rings : AreMade (λ (ps : List Point). ps) (λ k ps. []) kind.Ring (λ ids. polygon)
    kind.Polygon
of_rings id d (simple p (polygon rings)) t e = is_made _ _ _ _ d p None rings tt refl
of_rings id d _ t e = absurd (cc e)

-- a multipoint is made of points
pub of_points : AreMade (λ (p : Point). p ∷ []) (λ k p. []) kind.Point multi_point kind.MultiPoint
of_points id d (simple p (multi_point ids ps)) t e = is_made _ _ _ _ d p ids ps t.1 refl
of_points id d _ t e = absurd (cc e)

-- a multilinestring is made of linestrings
pub of_lines : AreMade (λ (ps : List Point). ps) (λ k ps. []) kind.Linestring multi_line
    kind.MultiLinestring
of_lines id d (simple p (multi_line ids lines)) t e = is_made _ _ _ _ d p ids lines t.1 refl
of_lines id d _ t e = absurd (cc e)

-- a multipolygon is made of polygons
pub of_areas : AreMade (λ (rings : List (List Point)). []) ring_rows kind.Polygon multi_polygon
    kind.MultiPolygon
of_areas id d (simple p (multi_polygon ids areas)) t e = is_made _ _ _ _ d p ids areas t.1 refl
of_areas id d _ t e = absurd (cc e)

-- a geometry whose row is a collection's is a collection
pub is_members : (id : Option ℤ) (d : ℕ) (g : Tree) → (own_row id d g).kind ≡ kind.Collection
    → collection (precision_of g) (ids_below g) (trees (members_below g)) ≡ g
is_members id d (simple p (point o)) e = cc e
is_members id d (simple p _) e = cc e
is_members id d (collection p ids gs) e = ap (λ hs. collection p ids hs) (trees-members gs)

-- no geometry's row is a ring's
pub is_no_ring : (id : Option ℤ) (d : ℕ) (g : Tree) → (own_row id d g).kind ≡ kind.Ring → ⊥
is_no_ring id d (simple p (point o)) e = cc e
is_no_ring id d _ e = cc e

-- ==== The rows of a geometry at a place of a form, and what is built from them.

-- the precision of a geometry's own row is the geometry's
own_row-precision : (id : Option ℤ) (d : ℕ) (g : Tree) → (own_row id d g).precision ≡ Some (precision_of g)
own_row-precision id d (simple p s) = refl
own_row-precision id d (collection p ids gs) = refl

-- ---- the row that is read

-- this row was read, at a place where there is a row
abbrev pub Told : List Row → ℕ → FlatRow → Type 0
Told rows at row = (r : Row) (more : List Row) → drop at rows ≡ r ∷ more → row_with row r.points ≡ r

-- at the place of a geometry, its own row comes first
pub own_here : (rows : List Row) (at d : ℕ) (id : Option ℤ) (g : Tree) (rest : List Row)
    → TreeAt rows at d id g rest → drop at rows ≡ own_row id d g ∷ (rows_under (suc d) g ++ rest)
own_here rows at d id g rest it = it.here ∙ ap (λ rs. rs ++ rest) (own_row_first id d g)

-- the row read is the geometry's own
read_own : (rows : List Row) (at d : ℕ) (id : Option ℤ) (g : Tree) (rest : List Row) (row : FlatRow)
    → TreeAt rows at d id g rest → Told rows at row
    → row_with row (own_row id d g).points ≡ own_row id d g
read_own rows at d id g rest row it told = told (own_row id d g) (rows_under (suc d) g ++ rest)
    (own_here rows at d id g rest it)

-- the kind read is the geometry's
pub read_kind : (rows : List Row) (at d : ℕ) (id : Option ℤ) (g : Tree) (rest : List Row)
    (row : FlatRow) → TreeAt rows at d id g rest → Told rows at row
    → row.kind ≡ (own_row id d g).kind
read_kind rows at d id g rest row it told = ap (λ (r : Row). r.kind) (read_own rows at d id g rest row it told)

-- the depth read is the geometry's
read_depth : (rows : List Row) (at d : ℕ) (id : Option ℤ) (g : Tree) (rest : List Row)
    (row : FlatRow) → TreeAt rows at d id g rest → Told rows at row → row.depth ≡ d
read_depth rows at d id g rest row it told = ap (λ (r : Row). r.depth)
    (read_own rows at d id g rest row it told) ∙ own_row-depth id d g

-- the precision read is the geometry's
pub read_precision : (rows : List Row) (at d : ℕ) (id : Option ℤ) (g : Tree) (rest : List Row)
    (row : FlatRow) → TreeAt rows at d id g rest → Told rows at row
    → row.precision ≡ Some (precision_of g)
read_precision rows at d id g rest row it told = ap (λ (r : Row). r.precision)
    (read_own rows at d id g rest row it told) ∙ own_row-precision id d g

-- ---- the rows below a geometry's own

-- the rows after the geometry's own are those below it
pub under_at : (rows : List Row) (at d : ℕ) (id : Option ℤ) (g : Tree) (rest : List Row)
    → TreeAt rows at d id g rest → drop (at + 1) rows ≡ rows_under (suc d) g ++ rest
under_at rows at d id g rest it = drop_more rows at (own_row id d g) (rows_under (suc d) g ++ rest)
    (own_here rows at d id g rest it)

-- the items of a geometry are at the next depth
each_below : {A : Type 0} (sound : A → Type 0) (f : ℕ → Option ℤ → A → List Row) (rows : List Row)
    (at d : ℕ) (id : Option ℤ) (g : Tree) (rest : List Row) (depth : ℕ) (ids : Ids) (xs : List A)
    → TreeAt rows at d id g rest → depth ≡ d → AllByRecursion sound xs → HasIds ids (length xs)
    → rows_under (suc d) g ≡ rows_of_each (f (suc d)) ids xs
    → EachAt sound (f (depth + 1)) rows (at + 1) (depth + 1) ids xs rest
each_below sound f rows at d id g rest depth ids xs it e are fit under =
    subst (λ k. EachAt sound (f k) rows (at + 1) k ids xs rest) (sym (ap (λ k. k + 1) e ∙ add-one d)) (record {
      are_sound = are;
      ids_fit = fit;
      behind = it.behind;
      here = under_at rows at d id g rest it ∙ ap (λ rs. rs ++ rest) under;
    })

-- every list has sound items if any item is sound
all_any : {A : Type 0} (xs : List A) → AllByRecursion IsAny xs
all_any [] = tt
all_any (x ∷ xs) = (tt, all_any xs)

-- the parts of a geometry come after its own row
pub parts_at : {A : Type 0} (own : A → List Point) (below : ℕ → A → List Row) (part : Kind)
    (make : Ids → List A → Simple) (k : Kind) → AreMade own below part make k
    → (rows : List Row) (at d : ℕ)
    (id : Option ℤ) (g : Tree) (rest : List Row) (row : FlatRow) → TreeAt rows at d id g rest
    → Told rows at row → row.kind ≡ k
    → (m : IsMade own below part make d g) × ComponentsAt own below part rows (at + 1)
    (row.depth + 1) m.ids m.parts rest
parts_at own below part make k are rows at d id g rest row it told is =
    let m = are id d g it.is_sound (sym (read_kind rows at d id g rest row it told) ∙ is) in (
      m,
      each_below IsAny (component_rows own below part) rows at d id g rest row.depth m.ids m.parts
          it (read_depth rows at d id g rest row it told) (all_any m.parts) m.ids_fit m.rows_are,
    )

-- the geometry is built from its parts
pub made_taken : {A : Type 0} (own : A → List Point) (below : ℕ → A → List Row) (part : Kind)
    (make : Ids → List A → Simple) (d : ℕ) (g : Tree) (m : IsMade own below part make d g)
    (parts : List A)
    (ids : Ids) (left rest : List Row) → (parts ≡ m.parts) × (ids ≡ m.ids) × (left ≡ rest)
    → (simple (precision_of g) (make ids parts) ≡ g) × (left ≡ rest)
made_taken own below part make d g m parts ids left rest taken =
    ((λ i. simple (precision_of g) (make (taken.1 i) (taken.0 i))) ∙ m.whole, taken.2)

-- the members of a geometry are geometries, and their ids fit
sound_members : (g : Tree) → IsTree g → AllByRecursion IsTree (members_below g)
sound_members (simple p (point o)) t = tt
sound_members (simple p _) t = tt
sound_members (collection p ids gs) t = geometries_are gs t.2

-- the ids of a collection fit its members
fit_members : (id : Option ℤ) (d : ℕ) (g : Tree) → (own_row id d g).kind ≡ kind.Collection
    → IsTree g → HasIds (ids_below g) (length (members_below g))
fit_members id d (simple p (point o)) e t = cc e
fit_members id d (simple p _) e t = cc e
fit_members id d (collection p ids gs) e t = subst (HasIds ids) (sym (length-members gs)) t.1

-- the geometries of a collection come after its own row
pub members_at : (rows : List Row) (at d : ℕ) (id : Option ℤ) (g : Tree) (rest : List Row)
    (row : FlatRow) → TreeAt rows at d id g rest → Told rows at row → row.kind ≡ kind.Collection
    → EachAt IsTree (λ i h. rows_with i (row.depth + 1) h) rows (at + 1) (row.depth + 1)
    (ids_below g) (members_below g) rest
members_at rows at d id g rest row it told k =
    let is = sym (read_kind rows at d id g rest row it told) ∙ k in
    each_below IsTree (λ depth i h. rows_with i depth h) rows at d id g rest row.depth (ids_below g)
    (members_below g) it (read_depth rows at d id g rest row it told)
    (sound_members g it.is_sound) (fit_members id d g is it.is_sound)
    (ap (rows_under (suc d)) (sym (is_members id d g is))
    ∙ sym (member_rows_each (suc d) (ids_below g) (members_below g)))

-- the rings of a polygon that is a component come after its own row
pub component_rings_at : (rows : List Row) (at : ℕ) (k : Kind) (d : ℕ) (id : Option ℤ)
    (rings : List (List Point)) (rest : List Row) (row : FlatRow)
    → OneAt IsAny (component_rows (λ (r : List (List Point)). []) ring_rows k d) rows at d id rings rest
    → Told rows at row
    → EachAt IsAny (component_rows (λ (ps : List Point). ps) (λ j ps. []) kind.Ring (row.depth + 1)) rows
    (at + 1) (row.depth + 1) None rings rest
component_rings_at rows at k d id rings rest row it told =
    let depth : row.depth ≡ d = ap (λ (r : Row). r.depth)
    (told (plain_row d k id []) (ring_rows (suc d) rings ++ rest) it.here) in
    subst (λ j. EachAt IsAny (component_rows (λ (ps : List Point). ps) (λ i ps. []) kind.Ring j) rows
    (at + 1) j None rings rest) (sym (ap (λ j. j + 1) depth ∙ add-one d)) (record {
      are_sound = all_any rings;
      ids_fit = tt;
      behind = it.behind;
      here = drop_more rows at (plain_row d k id []) (ring_rows (suc d) rings ++ rest) it.here;
    })

-- ---- geometries without rows below their own

-- the first point of a list, if there is one
pub first_point : (ps : List Point) → slice_get ps 0 ≡ point_in ps
first_point [] = refl
first_point (p ∷ ps) = refl

-- a point or a linestring is built from its row alone
pub own_taken : (k : Kind) (make : List Point → Simple)
    → ((id : Option ℤ) (d : ℕ) (g : Tree) → (own_row id d g).kind ≡ k
    → simple (precision_of g) (make (own_row id d g).points) ≡ g)
    → ((d : ℕ) (ps : List Point) → rows_below d (make ps) ≡ [])
    → (rows : List Row) (at d : ℕ) (id : Option ℤ) (g : Tree) (rest : List Row) (row : FlatRow)
    → TreeAt rows at d id g rest → Told rows at row → row.kind ≡ k
    → (s : Simple) → s ≡ make (own_row id d g).points
    → (simple (precision_of g) s ≡ g) × (drop (at + 1) rows ≡ rest)
own_taken k make are none rows at d id g rest row it told is s e =
    let whole = are id d g (sym (read_kind rows at d id g rest row it told) ∙ is) in (
      ap (simple (precision_of g)) e ∙ whole,
      under_at rows at d id g rest it ∙ ap (λ h. rows_under (suc d) h ++ rest) (sym whole)
          ∙ ap (λ rs. rs ++ rest) (none (suc d) (own_row id d g).points),
    )

-- ---- the geometry of a precision and a shape

-- the precision and shape make a geometry
pub fit_of : (o : Option ℤ) (p : ℤ) (shape : Shape) (g : Tree) → o ≡ Some p → AreOf o shape g
    → IsPrecision p × HasFitIds shape
fit_of o p shape g e are =
    let both : Some p ≡ Some (precision_of g) = sym e ∙ are.precision_is in
    let same : p ≡ precision_of g = cc both in
    let fit = fit-tree_of (precision_of g) shape (subst IsTree (sym are.shape_is) are.sound) in
    (subst IsPrecision (sym same) fit.0, fit.1)

-- ---- all rows of a form

-- the rows of one geometry begin at place 0
pub all_at : (l : Allowance) (rs : List Row) → (rs ≡ [] → ⊥) → AreValidRowsOfOne l rs → (g : Tree)
    × IsValid l g × (rows 0 g ≡ rs) × TreeAt rs 0 0 None g []
all_at l [] some v = absurd (some refl)
all_at l (r ∷ rs) some v = (
  v.0,
  v.1,
  v.2,
  record {
    is_sound = v.1.tree;
    behind = tt;
    here = sym v.2
        ∙ sym (append-nil (rows 0 v.0));
  },
)

-- ==== The rows of a geometry appended one after another.

-- these are rows of one geometry within the largest limits
abbrev pub AreFlatRows : List Row → Type 0
AreFlatRows rs = AreValidRowsOfOne largest_limits rs

-- ---- one row

-- a row that comes next may be pushed
pub may_push : (old : List Row) (r : Row) (more : List Row) → AreFlatRows (old ++ r ∷ more)
    → Continues largest_limits old r
may_push old r more v = continues_row largest_limits old r
    (one_valid_front largest_limits (old ++ r ∷ []) more
    (subst AreFlatRows (sym (append_assoc old (r ∷ []) more)) v))

-- after it the other rows come next
pub others_go_on : (old : List Row) (r : Row) (more now : List Row) → AreFlatRows (old ++ r ∷ more)
    → now ≡ old ++ r ∷ [] → AreFlatRows (now ++ more)
others_go_on old r more now v e = subst AreFlatRows (sym (append_assoc old (r ∷ []) more)
    ∙ ap (λ rs. rs ++ more) (sym e)) v

-- a row in a list of shallow rows is shallow
shallow_at : (n : ℕ) (old : List Row) (r : Row) (more : List Row) → AreShallow n (old ++ r ∷ more) → r.depth ≤ n
shallow_at n [] r more h = h.0
shallow_at n (s ∷ old) r more h = shallow_at n old r more h.1

-- no row is deeper than the cap
pub no_deeper : (old : List Row) (r : Row) (more : List Row) → AreFlatRows (old ++ r ∷ more)
    → r.depth ≤ row_depth_cap
no_deeper old r more v = shallow_at row_depth_cap old r more
    (valid_depths largest_limits (old ++ r ∷ more) (valid_list largest_limits (old ++ r ∷ more) v))

-- ---- members, one after another

-- the rows of the members before place i come after the old rows
pub record HasRows {A : Type 0} (f : Option ℤ → A → List Row) (ids : Ids) (xs : List A)
    (i index : ℕ) (old now : List Row) : Type 0 where
  pub place : index ≡ i
  pub rows : now ++ rows_of_each f (ids_from i ids) (drop i xs) ≡ old ++ rows_of_each f ids xs

-- before the first member there are only the old rows
pub has_rows_none : {A : Type 0} (f : Option ℤ → A → List Row) (ids : Ids) (xs : List A)
    (old : List Row) → HasRows f ids xs 0 0 old old
has_rows_none f ids xs old = record {
  place = refl;
  rows = ap (λ (js : Ids). old ++ rows_of_each f js xs) (ids_from_start ids);
}

-- the rows of the next member, and those of the members after it
next_rows : {A : Type 0} (f : Option ℤ → A → List Row) (ids : Ids) (xs : List A) (i index : ℕ)
    (x : A) (id : Option ℤ) (old now : List Row) → HasRows f ids xs i index old now → i < length xs
    → x ≡ get_or xs i x → id ≡ first_id (ids_from index ids)
    → now ++ (f id x ++ rows_of_each f (ids_from (i + 1) ids) (drop (i + 1) xs)) ≡ old ++ rows_of_each f ids xs
next_rows f ids xs i index x id old now has within read eid =
    let first : id ≡ first_id (ids_from i ids) = eid ∙ ap (λ j. first_id (ids_from j ids)) has.place in
    ap (λ j. now ++ (f j x ++ rows_of_each f (ids_from (i + 1) ids) (drop (i + 1) xs))) first
    ∙ ap (λ rs. now ++ rs) (sym (each_next f ids xs i x within read)) ∙ has.rows

-- the rows of the next member come next
pub next_goes_on : {A : Type 0} (f : Option ℤ → A → List Row) (ids : Ids) (xs : List A)
    (i index : ℕ) (x : A) (id : Option ℤ) (old now : List Row)
    → AreFlatRows (old ++ rows_of_each f ids xs) → HasRows f ids xs i index old now → i < length xs
    → x ≡ get_or xs i x → id ≡ first_id (ids_from index ids)
    → AreFlatRows (now ++ f id x)
next_goes_on f ids xs i index x id old now v has within read eid =
    let rest : List Row = rows_of_each f (ids_from (i + 1) ids) (drop (i + 1) xs) in
    one_valid_front largest_limits (now ++ f id x) rest
    (subst AreFlatRows (sym (next_rows f ids xs i index x id old now has within read eid)
    ∙ sym (append_assoc now (f id x) rest)) v)

-- the rows of the next member are appended
pub has_rows_more : {A : Type 0} (f : Option ℤ → A → List Row) (ids : Ids) (xs : List A)
    (i index : ℕ) (x : A) (id : Option ℤ) (old now after : List Row)
    → HasRows f ids xs i index old now → i < length xs → x ≡ get_or xs i x
    → id ≡ first_id (ids_from index ids)
    → after ≡ now ++ f id x → HasRows f ids xs (i + 1) (index + 1) old after
has_rows_more f ids xs i index x id old now after has within read eid put = record {
  place = ap (λ j. j + 1) has.place;
  rows =
      ap (λ rs. rs ++ rows_of_each f (ids_from (i + 1) ids) (drop (i + 1) xs)) put
      ∙ append_assoc now (f id x) (rows_of_each f (ids_from (i + 1) ids) (drop (i + 1) xs))
      ∙ next_rows f ids xs i index x id old now has within read eid;
}

-- the rows of all members are appended
pub has_rows_all : {A : Type 0} (f : Option ℤ → A → List Row) (ids : Ids) (xs : List A)
    (i index : ℕ) (old now : List Row) → HasRows f ids xs i index old now → length xs ≤ i
    → now ≡ old ++ rows_of_each f ids xs
has_rows_all f ids xs i index old now has done = sym (append-nil now)
    ∙ ap (λ ys. now ++ rows_of_each f (ids_from i ids) ys) (sym (drop_all i xs done)) ∙ has.rows

-- ---- a component or a geometry: its own row, and the rows under it

-- its own row may be pushed
pub own_may_push : (under : ℕ → List Row) (d : ℕ) (old rows : List Row) (r s : Row)
    → AreFlatRows (old ++ rows) → rows ≡ r ∷ under (suc d) → s ≡ r → Continues largest_limits old s
own_may_push under d old rows r s v whole e = subst (Continues largest_limits old) (sym e)
    (may_push old r (under (suc d)) (subst (λ rs. AreFlatRows (old ++ rs)) whole v))

-- after its own row the rows under it come next
pub under_goes_on : (under : ℕ → List Row) (d : ℕ) (old rows now : List Row) (r s : Row)
    → AreFlatRows (old ++ rows) → rows ≡ r ∷ under (suc d) → s ≡ r → now ≡ old ++ s ∷ []
    → AreFlatRows (now ++ under (d + 1))
under_goes_on under d old rows now r s v whole e pushed =
    subst (λ j. AreFlatRows (now ++ under j)) (sym (add-one d))
    (others_go_on old r (under (suc d)) now (subst (λ rs. AreFlatRows (old ++ rs)) whole v)
    (pushed ∙ ap (λ q. old ++ q ∷ []) e))

-- with the rows under it, all its rows are pushed
pub all_pushed : (under : ℕ → List Row) (d : ℕ) (old rows now : List Row) (r s : Row)
    → rows ≡ r ∷ under (suc d) → s ≡ r → now ≡ old ++ s ∷ [] → now ++ under (d + 1) ≡ old ++ rows
all_pushed under d old rows now r s whole e pushed =
    ap (λ j. now ++ under j) (add-one d)
    ∙ ap (λ rs. rs ++ under (suc d)) (pushed ∙ ap (λ q. old ++ q ∷ []) e)
    ∙ append_assoc old (r ∷ []) (under (suc d)) ∙ ap (λ rs. old ++ rs) (sym whole)

-- it is no deeper than the cap
pub own_no_deeper : (under : ℕ → List Row) (d : ℕ) (old rows : List Row) (r : Row)
    → AreFlatRows (old ++ rows) → rows ≡ r ∷ under (suc d) → r.depth ≡ d → d ≤ row_depth_cap
own_no_deeper under d old rows r v whole at = subst (λ e. e ≤ row_depth_cap) at
    (no_deeper old r (under (suc d)) (subst (λ rs. AreFlatRows (old ++ rs)) whole v))

-- ---- a geometry

-- the rows under a geometry, by their definition
pub under_valid : (d : ℕ) (g : Tree) (under old : List Row) → AreFlatRows (old ++ rows_under d g)
    → under ≡ rows_under d g → AreFlatRows (old ++ under)
under_valid d g under old v e = subst (λ rs. AreFlatRows (old ++ rs)) (sym e) v

-- the rows under a geometry are pushed
pub under_pushed : {T E : Type 0} (result : Result T E) (d : ℕ) (g : Tree)
    (under old last : List Row) → under ≡ rows_under d g → OnOk result (last ≡ old ++ under)
    → OnOk result (last ≡ old ++ rows_under d g)
under_pushed result d g under old last e told = subst (λ rs. OnOk result (last ≡ old ++ rs)) e told

-- a point or a linestring has no rows under it
pub none_under : (d : ℕ) (p : ℤ) (shape : Shape) (g : Tree) (old : List Row) → tree_of p shape ≡ g
    → ((o : Option Point) × (shape ≡ Shape.Point o)) ⊎ ((ps : List Point) × (shape ≡ Shape.Line ps))
    → old ≡ old ++ rows_under d g
none_under d p shape g old whole (inl (o, e)) = sym (append-nil old)
    ∙ ap (λ rs. old ++ rs) (under_shape d p shape (Shape.Point o) g whole e)
none_under d p shape g old whole (inr (ps, e)) = sym (append-nil old)
    ∙ ap (λ rs. old ++ rs) (under_shape d p shape (Shape.Line ps) g whole e)

-- the rows of members, as lists
pub members_valid : (d : ℕ) (ids : Ids) (gs hs : List Tree) (old : List Row) → hs ≡ gs
    → AreFlatRows (old ++ member_rows d ids (trees gs))
    → AreFlatRows (old ++ rows_of_each (λ id g. rows_with id d g) ids hs)
members_valid d ids gs hs old e v = subst (λ rs. AreFlatRows (old ++ rs))
    (sym (member_rows_each d ids hs ∙ ap (λ ks. member_rows d ids (trees ks)) e)) v

-- a geometry that is not a collection has no members
pub is_simple : (p : ℤ) (shape : Shape) (g : Tree) → tree_of p shape ≡ g
    → ((gs : List Tree) (ids : Ids) → shape ≡ Shape.Collection gs ids → ⊥) → IsSimple g
is_simple p (Shape.Collection gs ids) g whole none = absurd (none gs ids refl)
is_simple p _ g whole none = subst IsSimple whole tt

pub no_members : (p : ℤ) (shape : Shape) (gs : List Tree) (ids : Ids) (g : Tree)
    → tree_of p shape ≡ g → shape ≡ Shape.Collection gs ids → IsSimple g → ⊥
no_members p shape gs ids g whole is plain = subst IsSimple (sym whole ∙ ap (tree_of p) is) plain
