-- What the value of a geometry names: the geometry itself.
use Rattle.std.proofs.Common.{◌≡◌, ℕ, zero, suc, ◌<◌, length, List, [], ◌∷◌, ◌++◌, map, refl, ap, ◌∙◌, sym, subst}
use Rattle.std.proofs.Common.{Some, None, ℤ, pos, negsuc, true, T, eqb→eq, eq-eqb, arith}
use Rattle.std.specs.Prelude.{Option, option_map, option_and_then}
use Rattle.std.specs.List.{AllByRecursion}
use lib.Ieee.Fits.{and_l, and_r}
use Rattle.json.specs.Json.{Json, document}
use Rattle.json.specs.Value.{items_of}
use Rattle.twkb_points.specs.Point.{Point, IsInRange, AreInRange}
use Rattle.twkb_tree.specs.Tree.{Ids, Simple, point, line, polygon, multi_point, multi_line, multi_polygon}
use Rattle.twkb_tree.specs.Tree.{Tree, simple, collection, Trees, end, ◌▷◌, count, IsPrecision, IsTree, AreTrees}
use Rattle.twkb_tree.specs.Tree.{IsId, HasIds, IdsFit, precision_of}
use Rattle.twkb_tree.specs.Rows.{kind_in}
use Rattle.twkb_tree.specs.Limits.{IsValid, largest_limits, IsSimpleInRange, IsTreeInRange, AreTreesInRange}
use Rattle.twkb_tree.specs.Limits.{LinesAreInRange, int_eq, has_precision, have_precision, uniform}
use Rattle.twkb_geojson.specs.Value.{array_of, position, positions, lists, coordinates, ids_of, id_value}
use Rattle.twkb_geojson.specs.Value.{value_of, values_of, geojson}
use Rattle.twkb_geojson.specs.Reading.{whole_said, items_named, each_named, position_named}
use Rattle.twkb_geojson.specs.Reading.{ids_for, ids_named, with_ids, shape_named, geometry_named, all_named}
use Rattle.twkb_geojson.specs.Reading.{feature_named, features_named}
use Rattle.twkb_geojson.specs.Collection.{feature_value, collection_value, collection_text}
use Rattle.twkb_geojson.proofs.CollectionLemmas.{one_collection}
use Rattle.std.specs.Option.{unwrap_or}
use Rattle.twkb_geojson.proofs.UnitsLemmas.{units_back, whole_back}
use Rattle.twkb_geojson.proofs.ValueLemmas.{tree_in, one_value}

-- ---- positions, and lists of what names something

items_back : {A : Type 0} (f : A → Json) (named : Json → Option A) (P : A → Type 0)
    → ((x : A) → P x → named (f x) ≡ Some x) → (xs : List A) → AllByRecursion P xs
    → items_named named (items_of (map f xs)) ≡ Some xs
items_back f named P each [] all = refl
items_back f named P each (x ∷ xs) all = rw (each x all.0, items_back f named P each xs all.1) refl

position_back : (p : ℤ) (a : Point) → IsPrecision p → IsInRange a → position_named p (position p a) ≡ Some a
position_back p a known inside = rw (units_back p a.x known inside.0, units_back p a.y known inside.1) refl

positions_back : (p : ℤ) (ps : List Point) → IsPrecision p → AreInRange ps
    → each_named (position_named p) (positions p ps) ≡ Some ps
positions_back p ps known all =
    items_back (position p) (position_named p) IsInRange (λ a inside. position_back p a known inside) ps all

lists_back : (p : ℤ) (lines : List (List Point)) → IsPrecision p → LinesAreInRange lines
    → each_named (each_named (position_named p)) (lists p lines) ≡ Some lines
lists_back p lines known all = items_back (positions p) (each_named (position_named p)) AreInRange
    (λ ps inside. positions_back p ps known inside) lines all

areas_back : (p : ℤ) (areas : List (List (List Point))) → IsPrecision p → AllByRecursion LinesAreInRange areas
    → each_named (each_named (each_named (position_named p))) (array_of (lists p) areas) ≡ Some areas
areas_back p areas known all = items_back (lists p) (each_named (each_named (position_named p))) LinesAreInRange
    (λ lines inside. lists_back p lines known inside) areas all

-- ---- ids

abbrev ids_value : Ids → Option Json
ids_value None = None
ids_value (Some ids) = Some (array_of id_value ids)

ids_kept : (ids : List ℤ) (n : ℕ) → 0 < n → length ids ≡ n → ids_for n ids ≡ Some (Some ids)
ids_kept ids zero some is = absurd (omega (arith, some))
ids_kept ids (suc n) some is = rw (eq-eqb (length ids) (suc n) is) refl

ids_back : (ids : Ids) (n : ℕ) → HasIds ids n → ids_named n (ids_value ids) ≡ Some ids
ids_back None n fit = refl
ids_back (Some ids) n fit =
    ap (λ o. option_and_then (ids_for n) o) (items_back id_value whole_said IsId whole_back ids fit.2)
    ∙ ids_kept ids n fit.0 fit.1

with_ids_back : {A : Type 0} (shape : Ids → List A → Simple) (ids : Ids) (xs : List A) (named : Option (List A))
    → HasIds ids (length xs) → named ≡ Some xs → with_ids shape (ids_value ids) named ≡ Some (shape ids xs)
with_ids_back shape ids xs named fit is =
    ap (with_ids shape (ids_value ids)) is ∙ ap (option_map (λ i. shape i xs)) (ids_back ids (length xs) fit)

-- ---- shapes

shape_back : (p : ℤ) (s : Simple) → IsPrecision p → IdsFit s → IsSimpleInRange s
    → shape_named p (kind_in s) (ids_value (ids_of s)) (coordinates p s) ≡ Some s
shape_back p (point None) known fit all = refl
shape_back p (point (Some a)) known fit all =
    ap (λ o. option_map point (option_map Some o)) (position_back p a known all)
shape_back p (line ps) known fit all = ap (option_map line) (positions_back p ps known all)
shape_back p (polygon rings) known fit all = ap (option_map polygon) (lists_back p rings known all)
shape_back p (multi_point ids ps) known fit all =
    with_ids_back multi_point ids ps _ fit (positions_back p ps known all)
shape_back p (multi_line ids lines) known fit all =
    with_ids_back multi_line ids lines _ fit (lists_back p lines known all)
shape_back p (multi_polygon ids areas) known fit all =
    with_ids_back multi_polygon ids areas _ fit (areas_back p areas known all)

-- the members of a simple shape's object
simple_named : (p : ℤ) (s : Simple) (named : Option Simple)
    → shape_named p (kind_in s) (ids_value (ids_of s)) (coordinates p s) ≡ named
    → geometry_named p (value_of (simple p s)) ≡ option_map (simple p) named
simple_named p (point o) named e = ap (option_map (simple p)) e
simple_named p (line ps) named e = ap (option_map (simple p)) e
simple_named p (polygon rings) named e = ap (option_map (simple p)) e
simple_named p (multi_point None ps) named e = ap (option_map (simple p)) e
simple_named p (multi_point (Some ids) ps) named e = ap (option_map (simple p)) e
simple_named p (multi_line None lines) named e = ap (option_map (simple p)) e
simple_named p (multi_line (Some ids) lines) named e = ap (option_map (simple p)) e
simple_named p (multi_polygon None areas) named e = ap (option_map (simple p)) e
simple_named p (multi_polygon (Some ids) areas) named e = ap (option_map (simple p)) e

-- and of a collection's
collection_named : (p q : ℤ) (ids : Ids) (gs : Trees) → HasIds ids (count gs) → all_named p (values_of gs) ≡ Some gs
    → geometry_named p (value_of (collection q ids gs)) ≡ Some (collection p ids gs)
collection_named p q None gs fit e = rw e refl
collection_named p q (Some ids) gs fit e =
    rw e (ap (option_map (λ own. collection p own gs)) (ids_back (Some ids) (count gs) fit))

-- ---- precisions

same_precision : (p q : ℤ) → T (int_eq p q) → p ≡ q
same_precision (pos m) (pos n) t = ap pos (eqb→eq m n t)
same_precision (negsuc m) (negsuc n) t = ap negsuc (eqb→eq m n t)
same_precision (pos m) (negsuc n) t = absurd t
same_precision (negsuc m) (pos n) t = absurd t

-- ---- geometries

simple_back : (p q : ℤ) (s : Simple) → p ≡ q → IsPrecision q → IdsFit s → IsSimpleInRange s
    → geometry_named p (value_of (simple q s)) ≡ Some (simple q s)
simple_back p q s e known fit all = subst (λ r. geometry_named r (value_of (simple q s)) ≡ Some (simple q s)) (sym e)
    (simple_named q s (Some s) (shape_back q s known fit all))

mutual
  tree_back : (p : ℤ) (g : Tree) → T (has_precision p g) → IsTree g → IsTreeInRange g
      → geometry_named p (value_of g) ≡ Some g
  tree_back p (simple q s) even is inside =
      simple_back p q s (same_precision p q even) is.0 is.1 inside
  tree_back p (collection q ids gs) even is inside =
      collection_named p q ids gs is.1 (trees_back p gs (and_r (int_eq p q) (have_precision p gs) even) is.2 inside)
      ∙ ap (λ r. Some (collection r ids gs))
      (same_precision p q (and_l (int_eq p q) (have_precision p gs) even))

  trees_back : (p : ℤ) (gs : Trees) → T (have_precision p gs) → AreTrees gs → AreTreesInRange gs
      → all_named p (values_of gs) ≡ Some gs
  trees_back p end even are inside = refl
  trees_back p (g ▷ gs) even are inside =
      rw (
        tree_back p g (and_l (has_precision p g) (have_precision p gs) even) are.0 inside.0,
        trees_back p gs (and_r (has_precision p g) (have_precision p gs) even) are.1 inside.1,
      ) refl

-- The value of a geometry names it, if its members have its precision.
pub read_back : (g : Tree) → IsValid largest_limits g → uniform g ≡ true
    → option_and_then (geometry_named (precision_of g)) (document (geojson g)) ≡ Some g
read_back g valid even =
    ap (option_and_then (geometry_named (precision_of g))) (one_value g valid)
    ∙ tree_back (precision_of g) g (subst T (sym even) tt) valid.tree (tree_in g valid.in_range)

-- no two geometries of one precision have one text
pub one_geometry : (g h : Tree) → IsValid largest_limits g → IsValid largest_limits h → uniform g ≡ true
    → uniform h ≡ true → precision_of g ≡ precision_of h → geojson g ≡ geojson h → g ≡ h
one_geometry g h valid also even too known is =
    ap (λ o. unwrap_or o g) (sym (read_back g valid even)
    ∙ ap (λ text. option_and_then (geometry_named (precision_of g)) (document text)) is
    ∙ ap (λ p. option_and_then (geometry_named p) (document (geojson h))) known ∙ read_back h also too)

-- ---- collections of features

feature_back : (p : ℤ) (g : Tree) → IsValid largest_limits g × (has_precision p g ≡ true)
    → feature_named p (feature_value g) ≡ Some g
feature_back p g h = tree_back p g (subst T (sym h.1) tt) h.0.tree (tree_in g h.0.in_range)

both : {A : Type 0} (P Q : A → Type 0) (xs : List A) → AllByRecursion P xs → AllByRecursion Q xs
    → AllByRecursion (λ x. P x × Q x) xs
both P Q [] all also = tt
both P Q (x ∷ xs) all also = ((all.0, also.0), both P Q xs all.1 also.1)

features_back : (p : ℤ) (gs : List Tree) → AllByRecursion (IsValid largest_limits) gs
    → AllByRecursion (λ g. has_precision p g ≡ true) gs → features_named p (collection_value gs) ≡ Some gs
features_back p gs valid even = items_back feature_value (feature_named p)
    (λ g. IsValid largest_limits g × (has_precision p g ≡ true)) (feature_back p) gs
    (both (IsValid largest_limits) (λ g. has_precision p g ≡ true) gs valid even)

-- The text of a collection says its geometries, if they have one precision.
pub collection_back : (p : ℤ) (gs : List Tree) → AllByRecursion (IsValid largest_limits) gs
    → AllByRecursion (λ g. has_precision p g ≡ true) gs → (text : List ℕ) × (collection_text gs ≡ text ++ 10 ∷ [])
    × (option_and_then (features_named p) (document text) ≡ Some gs)
collection_back p gs valid even =
    let one = one_collection gs valid in
    (one.0, one.1, ap (option_and_then (features_named p)) one.2 ∙ features_back p gs valid even)
