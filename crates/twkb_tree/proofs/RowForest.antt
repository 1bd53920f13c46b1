-- Rows as a forest: what fits in it, and the geometries that it gives.
use Rattle.std.proofs.Common.{◌≡◌, ℕ, ◌<◌, ◌≤◌, Bool, true, false, refl, arith, ℤ, pos, negsuc, List, [], ◌∷◌, Option}
use Rattle.std.proofs.Common.{Some, None, sym, ◌∙◌, ap, suc, ◌++◌, inl, inr, length}
use Rattle.std.specs.Prelude.{◌&&◌, nat_lt, nat_le, IfSome, zero, ⊤, is_some, if◌then◌else◌, is_none, not}
use Rattle.std.proofs.lemmas.Bool.Decides.{nat_tests}
use Rattle.std.proofs.lemmas.Int.{ints}
use Rattle.std.proofs.lemmas.Bool.{cases_Bool}
use Rattle.twkb_points.specs.Point.{Point, IsCoordinate, AreInRange}
use Rattle.twkb_tree.specs.Tree.{IsPrecision, IsId, Tree, Trees, Simple, Ids, simple, collection, end, ◌▷◌, point, line}
use Rattle.twkb_tree.specs.Tree.{polygon, multi_point, multi_line, multi_polygon, IsTree, AreTrees, AreIds, HasIds}
use Rattle.twkb_tree.specs.Tree.{IdsFit, count}
use Rattle.twkb_tree.specs.Admits.{is_id, id_in_range, is_precision, fits, is_collection, has_same_ids, may_have}
use Rattle.twkb_tree.specs.Admits.{has_place, id_allowed, precision_in_range, precision_fits, points_fit, is_geometry}
use Rattle.twkb_tree.specs.Admits.{has_points, is_ring}
use Rattle.twkb_tree.specs.Refusal.{is_coordinate, are_in_range}
use Rattle.twkb_tree.specs.declared.kind.Kind.{Kind}
use Rattle.twkb_tree.specs.Rows.{Row, plain_row, own_row, first_id, other_ids, own_points, kind_in}
use Rattle.twkb_tree.specs.declared.kind.Kind.TheVariants as kind

-- ==== What a true test on rows says.

-- both tests hold if their conjunction holds
pub both_true : (a b : Bool) → (a && b) ≡ true → (a ≡ true) × (b ≡ true)
both_true true b h = (refl, h)
both_true false b h = cc h

-- their conjunction holds if both tests hold
pub both : (a b : Bool) → a ≡ true → b ≡ true → (a && b) ≡ true
both a b p q = rw (p, q) refl

-- the test of "below" gives the inequality
pub below_test : (m n : ℕ) → nat_lt m n ≡ true → m < n
below_test m n h = grind (arith, nat_tests)

-- the inequality makes the test of "below" true
pub test_below : (m n : ℕ) → m < n → nat_lt m n ≡ true
test_below m n h = grind (arith, nat_tests)

-- the test of "at most" gives the inequality
pub within_test : (m n : ℕ) → nat_le m n ≡ true → m ≤ n
within_test m n h = grind (arith, nat_tests)

-- the inequality makes the test of "at most" true
pub test_within : (m n : ℕ) → m ≤ n → nat_le m n ≡ true
test_within m n h = grind (arith, nat_tests)

-- ==== The tests of ranges hold exactly for numbers in range.

-- a precision in range passes the test
pub is_precision-true : (n : ℤ) → IsPrecision n → is_precision n ≡ true
is_precision-true (pos n) h = grind (arith, ints, nat_tests)
is_precision-true (negsuc n) h = grind (arith, ints, nat_tests)

-- a number that passes is a precision in range
pub precision_is : (n : ℤ) → is_precision n ≡ true → IsPrecision n
precision_is (pos n) h = (omega (arith, ints), grind (arith, ints, nat_tests))
precision_is (negsuc n) h = (grind (arith, ints, nat_tests), omega (arith, ints))

-- an id in range passes the test
pub is_id-true : (n : ℤ) → IsId n → is_id n ≡ true
is_id-true (pos n) h = grind (arith, ints, nat_tests)
is_id-true (negsuc n) h = grind (arith, ints, nat_tests)

-- a number that passes is an id in range
pub id_is : (n : ℤ) → is_id n ≡ true → IsId n
id_is (pos n) h = (omega (arith, ints), grind (arith, ints, nat_tests))
id_is (negsuc n) h = (grind (arith, ints, nat_tests), omega (arith, ints))

-- a coordinate in range passes the test
pub is_coordinate-true : (n : ℤ) → IsCoordinate n → is_coordinate n ≡ true
is_coordinate-true (pos n) h = grind (arith, ints, nat_tests)
is_coordinate-true (negsuc n) h = grind (arith, ints, nat_tests)

-- a number that passes is a coordinate in range
pub coordinate_is : (n : ℤ) → is_coordinate n ≡ true → IsCoordinate n
coordinate_is (pos n) h = (omega (arith, ints), grind (arith, ints, nat_tests))
coordinate_is (negsuc n) h = (grind (arith, ints, nat_tests), omega (arith, ints))

-- points in range pass the test
pub are_in_range-true : (ps : List Point) → AreInRange ps → are_in_range ps ≡ true
are_in_range-true [] h = refl
are_in_range-true (p ∷ ps) h = rw (
  is_coordinate-true p.x h.0.0,
  is_coordinate-true p.y h.0.1,
  are_in_range-true ps h.1,
) refl

-- points that pass are in range
pub points_in_range : (ps : List Point) → are_in_range ps ≡ true → AreInRange ps
points_in_range [] h = tt
points_in_range (p ∷ ps) h =
    let two = both_true (is_coordinate p.x && is_coordinate p.y) (are_in_range ps) h in
    let axes = both_true (is_coordinate p.x) (is_coordinate p.y) two.0 in
    ((coordinate_is p.x axes.0, coordinate_is p.y axes.1), points_in_range ps two.1)

-- an id in range passes the test, and so does none
pub id_in_range-true : (o : Option ℤ) → IfSome o IsId → id_in_range o ≡ true
id_in_range-true None h = refl
id_in_range-true (Some n) h = is_id-true n h

-- an option that passes is none or an id in range
pub optional_id_is : (o : Option ℤ) → id_in_range o ≡ true → IfSome o IsId
optional_id_is None h = tt
optional_id_is (Some n) h = id_is n h

-- ==== Rows as a forest: each row with the rows below it.

-- a forest: a row, the rows below it, and the rows after those
pub data Nodes : Type 0 where
  none : Nodes
  node : Row → Nodes → Nodes → Nodes

-- the rows of a forest in order
abbrev pub listed : Nodes → List Row
listed none = []
listed (node r c l) = r ∷ (listed c ++ listed l)

-- the rows of a forest, last one first, on top of the rows before it
abbrev pub past : Nodes → List Row → List Row
past none before = before
past (node r c l) before = past l (past c (r ∷ before))

-- the first child after one more child; a root has none
abbrev pub next_first : Option Row → Option Row → Row → Option Row
next_first None f r = None
next_first (Some p) None r = Some r
next_first (Some p) (Some f) r = Some f

-- each row is at its depth, and is what it must be under its parent
abbrev pub Fit : ℕ → Option Row → Option Row → Nodes → Type 0
Fit d p f none = ⊤
Fit d p f (node r c l) = (r.depth ≡ d) × (fits p f r ≡ true) × Fit (suc d) (Some r) None c
    × Fit d p (next_first p f r) l

-- no row is above this depth
abbrev pub IsDeep : ℕ → Nodes → Type 0
IsDeep d none = ⊤
IsDeep d (node r c l) = (d ≤ r.depth) × IsDeep d c × IsDeep d l

-- a forest with one more row at its end, `k` levels down
abbrev pub add : ℕ → Row → Nodes → Nodes
add k r none = node r none none
add zero r (node s c l) = node s c (add zero r l)
add (suc k) r (node s c none) = node s (add k r c) none
add (suc k) r (node s c (node t b l)) = node s c (add (suc k) r (node t b l))

-- ---- the forest of a geometry's rows, and back

-- the forest of parts, each with the rows below it
abbrev pub each_nodes : {A : Type 0} → (Option ℤ → A → Row) → (A → Nodes) → Ids → List A → Nodes
each_nodes row below ids [] = none
each_nodes row below ids (x ∷ xs) = node (row (first_id ids) x) (below x) (each_nodes row below (other_ids ids) xs)

-- the forest of rings
abbrev pub ring_nodes : ℕ → List (List Point) → Nodes
ring_nodes d rings = each_nodes (plain_row d kind.Ring) (λ ring. none) None rings

-- the forest below a simple shape
abbrev pub simple_below : ℕ → Simple → Nodes
simple_below d (polygon rings) = ring_nodes d rings
simple_below d (multi_point ids ps) = each_nodes (λ id p. plain_row d kind.Point id (p ∷ [])) (λ p. none) ids ps
simple_below d (multi_line ids lines) = each_nodes (plain_row d kind.Linestring) (λ ps. none) ids lines
simple_below d (multi_polygon ids areas) = each_nodes (λ id rings. plain_row d kind.Polygon id [])
    (ring_nodes (suc d)) ids areas
simple_below d _ = none

-- the forest below a geometry's own row, and that of members
abbrev mutual
  pub tree_below : ℕ → Tree → Nodes
  tree_below d (simple p s) = simple_below d s
  tree_below d (collection p ids gs) = member_nodes d ids gs

  pub member_nodes : ℕ → Ids → Trees → Nodes
  member_nodes d ids end = none
  member_nodes d ids (g ▷ gs) = node (own_row (first_id ids) d g) (tree_below (suc d) g)
      (member_nodes d (other_ids ids) gs)

-- the number, or 0 if there is none
abbrev pub number_in : Option ℤ → ℤ
number_in None = pos 0
number_in (Some n) = n

-- the ids of the rows of the first level
abbrev pub all_ids : Nodes → List ℤ
all_ids none = []
all_ids (node r c l) = number_in r.id ∷ all_ids l

-- the ids of the first level, if there are ids
abbrev pub ids_when : Bool → Nodes → Ids
ids_when false n = None
ids_when true n = Some (all_ids n)

-- whether the first row has an id
abbrev pub first_has_id : Nodes → Bool
first_has_id none = false
first_has_id (node r c l) = is_some r.id

-- the ids of the first level, if the first row has one
abbrev pub ids_of : Nodes → Ids
ids_of n = ids_when (first_has_id n) n

-- the first point
abbrev pub point_in : List Point → Option Point
point_in [] = None
point_in (p ∷ ps) = Some p

-- the points of each row of the first level
abbrev pub lines_of : Nodes → List (List Point)
lines_of none = []
lines_of (node r c l) = r.points ∷ lines_of l

-- the points of the rows of the first level, joined
abbrev pub points_of : Nodes → List Point
points_of none = []
points_of (node r c l) = r.points ++ points_of l

-- the lines below each row of the first level
abbrev pub areas_of : Nodes → List (List (List Point))
areas_of none = []
areas_of (node r c l) = lines_of c ∷ areas_of l

-- the simple shape of a row and the rows below it
abbrev pub simple_from : Kind → List Point → Nodes → Simple
simple_from kind.Point ps c = point (point_in ps)
simple_from kind.Linestring ps c = line ps
simple_from kind.Polygon ps c = polygon (lines_of c)
simple_from kind.MultiPoint ps c = multi_point (ids_of c) (points_of c)
simple_from kind.MultiLinestring ps c = multi_line (ids_of c) (lines_of c)
simple_from kind.MultiPolygon ps c = multi_polygon (ids_of c) (areas_of c)
simple_from _ ps c = point None

-- the geometry of a row and the rows below it, given the geometries below it
abbrev pub tree_from : Row → Nodes → Trees → Tree
tree_from r c gs = if is_collection r.kind then collection (number_in r.precision) (ids_of c) gs
    else simple (number_in r.precision) (simple_from r.kind r.points c)

-- the geometries of a forest
abbrev pub trees_from : Nodes → Trees
trees_from none = end
trees_from (node r c l) = tree_from r c (trees_from c) ▷ trees_from l

-- ==== What is true of a row that fits under its parent.

-- the facts about a row that fits, by name
pub record Facts (p f : Option Row) (r : Row) : Type 0 where
  pub place : has_place p r.kind ≡ true
  pub id_range : id_in_range r.id ≡ true
  pub id : id_allowed p r.kind r.id ≡ true
  pub same : has_same_ids f r.id ≡ true
  pub range : precision_in_range r.precision ≡ true
  pub precision : precision_fits p r.precision ≡ true
  pub points : points_fit r.kind (is_geometry p) r.points ≡ true

-- a conjunction of seven tests gives each of them
all_true : (a b c d e f g : Bool) → (a && b && c && d && e && f && g) ≡ true → (a ≡ true)
    × (b ≡ true) × (c ≡ true) × (d ≡ true) × (e ≡ true) × (f ≡ true) × (g ≡ true)
all_true a b c d e f g h =
    let six = both_true (a && b && c && d && e && f) g h in
    let five = both_true (a && b && c && d && e) f six.0 in
    let four = both_true (a && b && c && d) e five.0 in
    let three = both_true (a && b && c) d four.0 in
    let two = both_true (a && b) c three.0 in
    let one = both_true a b two.0 in
    (one.0, one.1, two.1, three.1, four.1, five.1, six.1)

-- a row that fits has all facts
pub facts : (p f : Option Row) (r : Row) → fits p f r ≡ true → Facts p f r
facts p f r h =
    let t = all_true (has_place p r.kind) (id_in_range r.id) (id_allowed p r.kind r.id)
    (has_same_ids f r.id) (precision_in_range r.precision) (precision_fits p r.precision)
    (points_fit r.kind (is_geometry p) r.points) h in
    record { place = t.0; id_range = t.1; id = t.2; same = t.3; range = t.4; precision = t.5; points = t.6 }

-- a row that has all facts fits
pub fits_by : (p f : Option Row) (r : Row) → Facts p f r → fits p f r ≡ true
fits_by p f r h = rw (h.place, h.id_range, h.id, h.same, h.range, h.precision, h.points) refl

-- a row equals one with the same depth, kind and precision
pub row_is : (r : Row) (d : ℕ) (k : Kind) (q : Option ℤ) → r.depth ≡ d → r.kind ≡ k
    → r.precision ≡ q → r ≡ record {
      depth = d;
      kind = k;
      id = r.id;
      precision = q;
      points = r.points;
    }
row_is r d k q a b c = rw (sym a, sym b, sym c) refl

-- an option that is none has no number
pub is_none-none : (o : Option ℤ) → is_none o ≡ true → o ≡ None
is_none-none None h = refl
is_none-none (Some z) h = cc h

-- an option that is not some has no number
pub is_some-none : (o : Option ℤ) → is_some o ≡ false → o ≡ None
is_some-none None h = refl
is_some-none (Some z) h = cc h

-- an option that is some has a number
pub is_some-some : (o : Option ℤ) → is_some o ≡ true → o ≡ Some (number_in o)
is_some-some None h = cc h
is_some-some (Some z) h = refl

-- an option that is none is not some
pub none-is_some : (o : Option ℤ) → is_none o ≡ true → is_some o ≡ false
none-is_some None h = refl
none-is_some (Some z) h = cc h

-- the children of a polygon are rings
pub under_polygon : (k : Kind) → may_have kind.Polygon k ≡ true → k ≡ kind.Ring
under_polygon kind.Ring h = refl
under_polygon _ h = cc h

-- the children of a multipoint are points
pub under_multi_point : (k : Kind) → may_have kind.MultiPoint k ≡ true → k ≡ kind.Point
under_multi_point kind.Point h = refl
under_multi_point _ h = cc h

-- the children of a multilinestring are linestrings
pub under_multi_line : (k : Kind) → may_have kind.MultiLinestring k ≡ true → k ≡ kind.Linestring
under_multi_line kind.Linestring h = refl
under_multi_line _ h = cc h

-- the children of a multipolygon are polygons
pub under_multi_polygon : (k : Kind) → may_have kind.MultiPolygon k ≡ true → k ≡ kind.Polygon
under_multi_polygon kind.Polygon h = refl
under_multi_polygon _ h = cc h

-- a part of a geometry has the kind that its parent's parts have
pub part_kind : (p r : Row) (f : Option Row) (k l : Kind) → Facts (Some p) f r → p.kind ≡ k
    → ((m : Kind) → may_have k m ≡ true → m ≡ l) → r.kind ≡ l
part_kind p r f k l h e only = only r.kind (ap (λ m. may_have m r.kind) (sym e) ∙ h.place)

-- a part of a geometry has no precision
pub part_precision : (p r : Row) (f : Option Row) (k : Kind) → Facts (Some p) f r → p.kind ≡ k
    → is_collection k ≡ false → r.precision ≡ None
part_precision p r f k h e lacks =
    let w : is_geometry (Some p) ≡ false = ap is_collection e ∙ lacks in
    is_none-none r.precision (rw w at h.precision)

-- a row has no rows below it if its kind may have no child
pub leaf : (d : ℕ) (p : Row) (f : Option Row) (n : Nodes) → Fit d (Some p) f n
    → ((m : Kind) → may_have p.kind m ≡ false) → n ≡ none
leaf d p f none fit lacks = refl
leaf d p f (node r c l) fit lacks = cc (lacks r.kind, (facts (Some p) f r fit.1).place)

-- a kind that equals a childless one may have no child
pub may_none : (k l : Kind) → k ≡ l → ((m : Kind) → may_have l m ≡ false) → (m : Kind) → may_have k m ≡ false
may_none k l e lacks m = ap (λ j. may_have j m) e ∙ lacks m

-- ---- points

-- a point that is part of a geometry has one point
pub one_point : (ps : List Point) → points_fit kind.Point false ps ≡ true → (q : Point) × (ps ≡ q ∷ [])
one_point (q ∷ []) h = (q, refl)
one_point _ h = cc h

-- a point that is a geometry itself has one point or none
pub most_one : (ps : List Point) → points_fit kind.Point true ps ≡ true → own_points (point (point_in ps)) ≡ ps
most_one (q ∷ s ∷ ps) h = cc h
most_one _ h = refl

-- a kind that holds no points fits no row with a point
pub none_fit : (k : Kind) (w : Bool) (q : Point) (ps : List Point) → has_points k ≡ false
    → points_fit k w (q ∷ ps) ≡ true → ⊥
none_fit kind.Point w q ps lacks h = cc lacks
none_fit kind.Linestring w q ps lacks h = cc lacks
none_fit kind.Ring w q ps lacks h = cc lacks
none_fit _ w q ps lacks h = cc h

-- the row of such a kind has no points
pub no_points_of : (l k : Kind) (w : Bool) (ps : List Point) → k ≡ l → has_points l ≡ false
    → points_fit k w ps ≡ true → ps ≡ []
no_points_of l k w [] e lacks h = refl
no_points_of l k w (q ∷ ps) e lacks h = absurd (none_fit l w q ps lacks (ap (λ j. points_fit j w (q ∷ ps)) (sym e) ∙ h))

-- ==== The rows below a row with parts give its parts, and the parts give these rows.

-- ---- ids

-- whether the children have ids, by the first of them
abbrev pub mode : Option Row → Option Row → Nodes → Bool
mode None f n = false
mode (Some p) None n = first_has_id n
mode (Some p) (Some f) n = is_some f.id

-- the later siblings have ids as the first has
pub mode_next : (p f : Option Row) (r : Row) (c l : Nodes) → mode p (next_first p f r) l ≡ mode p f (node r c l)
mode_next (Some p) None r c l = refl
mode_next _ _ r c l = refl

-- the row itself has an id as the first has
pub mode_here : (p f : Option Row) (r : Row) (c l : Nodes) → Facts p f r → is_some r.id ≡ mode p f (node r c l)
mode_here None f r c l h = none-is_some r.id h.id
mode_here (Some p) None r c l h = refl
mode_here (Some p) (Some f) r c l h = elim (cases_Bool (is_some f.id)) [
  | inl some ↦ rw (some) (rw some at h.same)
  | inr lacks ↦ rw (lacks) (none-is_some r.id (rw lacks at h.same))
]

-- the first id is the row's
pub first_id-when : (b : Bool) (r : Row) (c l : Nodes) → is_some r.id ≡ b → first_id (ids_when b (node r c l)) ≡ r.id
first_id-when false r c l h = sym (is_some-none r.id h)
first_id-when true r c l h = sym (is_some-some r.id h)

-- the other ids are those of the other rows
pub other_ids-when : (b : Bool) (r : Row) (c l : Nodes) → other_ids (ids_when b (node r c l)) ≡ ids_when b l
other_ids-when false r c l = refl
other_ids-when true r c l = refl

-- equal parts make equal forests
pub node_is : (r s : Row) (c b l a : Nodes) → r ≡ s → c ≡ b → l ≡ a → node r c l ≡ node s b a
node_is r s c b l a p q w = cc

-- one more part at the start
each_step : {A : Type 0} (row : Option ℤ → A → Row) (below : A → Nodes) (b : Bool) (r : Row)
    (c l : Nodes) (x : A) (xs : List A)
    → is_some r.id ≡ b → row r.id x ≡ r → below x ≡ c → each_nodes row below (ids_when b l) xs ≡ l
    → each_nodes row below (ids_when b (node r c l)) (x ∷ xs) ≡ node r c l
each_step row below b r c l x xs h e q rest =
    node_is (row (first_id (ids_when b (node r c l))) x) r (below x) c
    (each_nodes row below (other_ids (ids_when b (node r c l))) xs) l
    (ap (λ id. row id x) (first_id-when b r c l h) ∙ e) q
    (ap (λ ids. each_nodes row below ids xs) (other_ids-when b r c l) ∙ rest)

-- ---- parts

-- the rows of rings are those of the rings they give
pub rings_back : (d : ℕ) (p : Row) (f : Option Row) (n : Nodes) → p.kind ≡ kind.Polygon
    → Fit d (Some p) f n → ring_nodes d (lines_of n) ≡ n
rings_back d p f none e fit = refl
rings_back d p f (node r c l) e fit =
    let h = facts (Some p) f r fit.1 in
    let k = part_kind p r f kind.Polygon kind.Ring h e under_polygon in
    let id_none : r.id ≡ None = is_none-none r.id (rw k at h.id) in
    let is = row_is r d kind.Ring None fit.0 k (part_precision p r f kind.Polygon h e refl) in
    node_is (plain_row d kind.Ring None r.points) r none c (ring_nodes d (lines_of l)) l
    (ap (λ id. plain_row d kind.Ring id r.points) (sym id_none) ∙ sym is)
    (sym (leaf (suc d) r None c fit.2 (may_none r.kind kind.Ring k (λ m. refl))))
    (rings_back d p (next_first (Some p) f r) l e fit.3)

-- whether a part has an id is as for its first sibling
deeper_mode : (p : Row) (f : Option Row) (r : Row) (c l : Nodes) (b : Bool)
    → mode (Some p) f (node r c l) ≡ b → mode (Some p) (next_first (Some p) f r) l ≡ b
deeper_mode p f r c l b m = mode_next (Some p) f r c l ∙ m

-- the rows of linestrings are those of the linestrings they give
pub lines_back : (d : ℕ) (p : Row) (f : Option Row) (n : Nodes) (b : Bool)
    → p.kind ≡ kind.MultiLinestring → Fit d (Some p) f n → mode (Some p) f n ≡ b
    → each_nodes (plain_row d kind.Linestring) (λ ps. none) (ids_when b n) (lines_of n) ≡ n
lines_back d p f none b e fit m = refl
lines_back d p f (node r c l) b e fit m =
    let h = facts (Some p) f r fit.1 in
    let k = part_kind p r f kind.MultiLinestring kind.Linestring h e under_multi_line in
    let is = row_is r d kind.Linestring None fit.0 k (part_precision p r f kind.MultiLinestring h e refl) in
    each_step (plain_row d kind.Linestring) (λ ps. none) b r c l r.points (lines_of l)
    (mode_here (Some p) f r c l h ∙ m) (sym is)
    (sym (leaf (suc d) r None c fit.2 (may_none r.kind kind.Linestring k (λ m. refl))))
    (lines_back d p (next_first (Some p) f r) l b e fit.3 (deeper_mode p f r c l b m))

-- the rows of polygons are those of the polygons they give
pub areas_back : (d : ℕ) (p : Row) (f : Option Row) (n : Nodes) (b : Bool)
    → p.kind ≡ kind.MultiPolygon → Fit d (Some p) f n → mode (Some p) f n ≡ b
    → each_nodes (λ id rings. plain_row d kind.Polygon id []) (ring_nodes (suc d)) (ids_when b n) (areas_of n) ≡ n
areas_back d p f none b e fit m = refl
areas_back d p f (node r c l) b e fit m =
    let h = facts (Some p) f r fit.1 in
    let k = part_kind p r f kind.MultiPolygon kind.Polygon h e under_multi_polygon in
    let is = row_is r d kind.Polygon None fit.0 k (part_precision p r f kind.MultiPolygon h e refl) in
    each_step (λ id rings. plain_row d kind.Polygon id []) (ring_nodes (suc d)) b r c l (lines_of c)
    (areas_of l) (mode_here (Some p) f r c l h ∙ m)
    (ap (λ ps. plain_row d kind.Polygon r.id ps) (sym
    (no_points_of kind.Polygon r.kind (is_geometry (Some p)) r.points k refl h.points)) ∙ sym is)
    (rings_back (suc d) r None c k fit.2)
    (areas_back d p (next_first (Some p) f r) l b e fit.3 (deeper_mode p f r c l b m))

-- the rows of points are those of the points they give
pub points_back : (d : ℕ) (p : Row) (f : Option Row) (n : Nodes) (b : Bool)
    → p.kind ≡ kind.MultiPoint → Fit d (Some p) f n → mode (Some p) f n ≡ b
    → each_nodes (λ id q. plain_row d kind.Point id (q ∷ [])) (λ q. none) (ids_when b n) (points_of n) ≡ n
points_back d p f none b e fit m = refl
points_back d p f (node r c l) b e fit m =
    let h = facts (Some p) f r fit.1 in
    let k = part_kind p r f kind.MultiPoint kind.Point h e under_multi_point in
    let is = row_is r d kind.Point None fit.0 k (part_precision p r f kind.MultiPoint h e refl) in
    let w : is_geometry (Some p) ≡ false = ap is_collection e in
    let one = one_point r.points (ap (λ j. points_fit j false r.points) (sym k)
    ∙ ap (λ j. points_fit r.kind j r.points) (sym w) ∙ h.points) in
    ap (λ ps. each_nodes (λ id q. plain_row d kind.Point id (q ∷ [])) (λ q. none)
    (ids_when b (node r c l)) (ps ++ points_of l)) one.1
    ∙ each_step (λ id q. plain_row d kind.Point id (q ∷ [])) (λ q. none) b r c l one.0 (points_of l)
    (mode_here (Some p) f r c l h ∙ m)
    (ap (λ ps. plain_row d kind.Point r.id ps) (sym one.1) ∙ sym is)
    (sym (leaf (suc d) r None c fit.2 (may_none r.kind kind.Point k (λ m. refl))))
    (points_back d p (next_first (Some p) f r) l b e fit.3 (deeper_mode p f r c l b m))

-- ==== A forest that fits is the forest of the geometries that it gives.

-- ---- numbers of rows

-- the number of rows of the first level
abbrev width : Nodes → ℕ
width none = 0
width (node r c l) = suc (width l)

-- there are as many ids as rows of the first level
length-all_ids : (n : Nodes) → length (all_ids n) ≡ width n
length-all_ids none = refl
length-all_ids (node r c l) = omega (arith, length-all_ids l)

-- there are as many linestrings as rows of the first level
length-lines_of : (n : Nodes) → length (lines_of n) ≡ width n
length-lines_of none = refl
length-lines_of (node r c l) = omega (arith, length-lines_of l)

-- there are as many polygons as rows of the first level
length-areas_of : (n : Nodes) → length (areas_of n) ≡ width n
length-areas_of none = refl
length-areas_of (node r c l) = omega (arith, length-areas_of l)

-- there are as many rows of the first level as parts
width-each : {A : Type 0} (row : Option ℤ → A → Row) (below : A → Nodes) (ids : Ids) (xs : List A)
    → width (each_nodes row below ids xs) ≡ length xs
width-each row below ids [] = refl
width-each row below ids (x ∷ xs) = omega (arith, width-each row below (other_ids ids) xs)

-- there are as many geometries as rows of the first level
count-trees_from : (n : Nodes) → count (trees_from n) ≡ width n
count-trees_from none = refl
count-trees_from (node r c l) = omega (arith, count-trees_from l)

-- an id that passes the test is in range
number_is : (o : Option ℤ) → id_in_range o ≡ true → IsId (number_in o)
number_is None h = id_is (pos 0) refl
number_is (Some n) h = id_is n h

-- each id of a forest that fits is in range
all_ids_range : (d : ℕ) (p f : Option Row) (n : Nodes) → Fit d p f n → AreIds (all_ids n)
all_ids_range d p f none fit = tt
all_ids_range d p f (node r c l) fit = (
  number_is r.id (facts p f r fit.1).id_range,
  all_ids_range d p (next_first p f r) l fit.3,
)

-- ids of a forest with a first row are as many as its rows
has_ids_when : (b : Bool) (r : Row) (c l : Nodes) (k : ℕ) → AreIds (all_ids (node r c l))
    → k ≡ width (node r c l) → HasIds (ids_when b (node r c l)) k
has_ids_when false r c l k are e = tt
has_ids_when true r c l k are e = (omega arith, omega (arith, length-all_ids l), are)

-- ids are there only if there are rows
has_ids : (d : ℕ) (p f : Option Row) (n : Nodes) (k : ℕ) → Fit d p f n → k ≡ width n → HasIds (ids_of n) k
has_ids d p f none k fit e = tt
has_ids d p f (node r c l) k fit e = has_ids_when (is_some r.id) r c l k (all_ids_range d p f (node r c l) fit) e

-- ---- complete geometries

-- a precision that passes the tests is in range
precision_known : (o : Option ℤ) → is_some o ≡ true → precision_in_range o ≡ true
    → (o ≡ Some (number_in o)) × IsPrecision (number_in o)
precision_known None h in_range = cc h
precision_known (Some q) h in_range = (refl, precision_is q in_range)

-- a row that is a geometry itself has a precision in range
whole_precision : (p f : Option Row) (r : Row) → is_geometry p ≡ true → Facts p f r
    → (r.precision ≡ Some (number_in r.precision)) × IsPrecision (number_in r.precision)
whole_precision p f r w h = precision_known r.precision (rw w at h.precision) h.range

-- a kind that passes the test is not a ring
not_ring : (k : Kind) → not (is_ring k) ≡ true → is_ring k ≡ false
not_ring kind.Ring h = cc h
not_ring _ h = refl

-- a kind that passes the test is the collection
collection_kind : (k : Kind) → is_collection k ≡ true → k ≡ kind.Collection
collection_kind kind.Collection h = refl
collection_kind _ h = cc h

-- a member of a collection is not a ring
in_collection : (k : Kind) → may_have kind.Collection k ≡ true → is_ring k ≡ false
in_collection kind.Ring h = cc h
in_collection _ h = refl

-- a child of a collection, known by its kind, is not a ring
under_collection : (j k : Kind) → is_collection j ≡ true → may_have j k ≡ true → is_ring k ≡ false
under_collection j k w h = in_collection k (ap (λ i. may_have i k) (sym (collection_kind j w)) ∙ h)

-- a row that is a geometry itself is not a ring
no_ring : (p f : Option Row) (r : Row) → is_geometry p ≡ true → Facts p f r → is_ring r.kind ≡ false
no_ring None f r w h = not_ring r.kind h.place
no_ring (Some p) f r w h = under_collection p.kind r.kind w h.place

-- the shape of a row that is neither a collection nor a ring
record Shaped (d : ℕ) (r : Row) (c : Nodes) (s : Simple) : Type 0 where
  pub kind : kind_in s ≡ r.kind
  pub points : own_points s ≡ r.points
  pub below : simple_below (suc d) s ≡ c
  pub ids : IdsFit s

-- a row whose kind has parts, and the rows below it, make a shape without points of its own
in_parts : (d : ℕ) (r : Row) (c : Nodes) (k : Kind) (s : Simple) → r.kind ≡ k → has_points k ≡ false
    → points_fit r.kind true r.points ≡ true → kind_in s ≡ k → own_points s ≡ []
    → simple_below (suc d) s ≡ c → IdsFit s → Shaped d r c s
in_parts d r c k s e lacks h kind empty below ids = record {
  kind = kind ∙ sym e;
  points = empty ∙ sym (no_points_of k r.kind true r.points e lacks h);
  below = below;
  ids = ids;
}

-- a row and the rows below it make a simple shape
shaped : (d : ℕ) (r : Row) (c : Nodes) (k : Kind) → r.kind ≡ k → is_ring k ≡ false
    → is_collection k ≡ false → points_fit r.kind true r.points ≡ true → Fit (suc d) (Some r) None c
    → Shaped d r c (simple_from k r.points c)
shaped d r c kind.Point e ring coll h fit = record {
  kind = sym e;
  points = most_one r.points (ap (λ j. points_fit j true r.points) (sym e) ∙ h);
  below = sym (leaf (suc d) r None c fit (may_none r.kind kind.Point e (λ m. refl)));
  ids = tt;
}
shaped d r c kind.Linestring e ring coll h fit = record {
  kind = sym e;
  points = refl;
  below = sym (leaf (suc d) r None c fit (may_none r.kind kind.Linestring e (λ m. refl)));
  ids = tt;
}
shaped d r c kind.Polygon e ring coll h fit = in_parts d r c kind.Polygon (polygon (lines_of c)) e
    refl h refl refl
    (rings_back (suc d) r None c e fit) tt
shaped d r c kind.Ring e ring coll h fit = cc ring
shaped d r c kind.MultiPoint e ring coll h fit =
    let back = points_back (suc d) r None c (first_has_id c) e fit refl in
    in_parts d r c kind.MultiPoint (multi_point (ids_of c) (points_of c)) e refl h refl refl back
    (has_ids (suc d) (Some r) None c (length (points_of c)) fit
    (sym (width-each (λ id q. plain_row (suc d) kind.Point id (q ∷ [])) (λ q. none) (ids_of c)
    (points_of c)) ∙ ap width back))
shaped d r c kind.MultiLinestring e ring coll h fit =
    in_parts d r c kind.MultiLinestring (multi_line (ids_of c) (lines_of c)) e refl h refl refl
    (lines_back (suc d) r None c (first_has_id c) e fit refl)
    (has_ids (suc d) (Some r) None c (length (lines_of c)) fit (length-lines_of c))
shaped d r c kind.MultiPolygon e ring coll h fit =
    in_parts d r c kind.MultiPolygon (multi_polygon (ids_of c) (areas_of c)) e refl h refl refl
    (areas_back (suc d) r None c (first_has_id c) e fit refl)
    (has_ids (suc d) (Some r) None c (length (areas_of c)) fit (length-areas_of c))
shaped d r c kind.Collection e ring coll h fit = cc coll

-- the geometry that a row and the rows below it make
record Rebuilt (d : ℕ) (r : Row) (c : Nodes) (g : Tree) : Type 0 where
  pub tree : IsTree g
  pub own : own_row r.id d g ≡ r
  pub below : tree_below (suc d) g ≡ c

-- they make a simple shape
rebuilt_simple : (d : ℕ) (p f : Option Row) (r : Row) (c : Nodes) → is_geometry p ≡ true → r.depth ≡ d
    → Facts p f r → is_collection r.kind ≡ false → Fit (suc d) (Some r) None c
    → Rebuilt d r c (simple (number_in r.precision) (simple_from r.kind r.points c))
rebuilt_simple d p f r c w e h coll fit =
    let s = shaped d r c r.kind refl (no_ring p f r w h) coll
    (ap (λ b. points_fit r.kind b r.points) (sym w) ∙ h.points) fit in
    let q = whole_precision p f r w h in
    record {
      tree = (q.1, s.ids);
      own = rw (s.kind, s.points)
          (sym (row_is r d r.kind (Some (number_in r.precision)) e refl q.0));
      below = s.below;
    }

-- they make a collection
rebuilt_collection : (d : ℕ) (p f : Option Row) (r : Row) (c : Nodes) → is_geometry p ≡ true
    → r.depth ≡ d → Facts p f r → is_collection r.kind ≡ true → Fit (suc d) (Some r) None c
    → AreTrees (trees_from c) → member_nodes (suc d) (ids_of c) (trees_from c) ≡ c
    → Rebuilt d r c (collection (number_in r.precision) (ids_of c) (trees_from c))
rebuilt_collection d p f r c w e h coll fit trees below =
    let k = collection_kind r.kind coll in
    let q = whole_precision p f r w h in
    record {
      tree = (q.1, has_ids (suc d) (Some r) None c (count (trees_from c)) fit (count-trees_from c), trees);
      own = rw (sym (no_points_of kind.Collection r.kind (is_geometry p) r.points k refl h.points))
          (sym (row_is r d kind.Collection (Some (number_in r.precision)) e k q.0));
      below = below;
    }

-- a forest is that of the geometries that it gives
pub record Members (d : ℕ) (b : Bool) (n : Nodes) : Type 0 where
  pub trees : AreTrees (trees_from n)
  pub nodes : member_nodes d (ids_when b n) (trees_from n) ≡ n

-- one more geometry at the start
members_step : (d : ℕ) (b : Bool) (r : Row) (c l : Nodes) (g : Tree) → is_some r.id ≡ b
    → Rebuilt d r c g → Members d b l → (IsTree g × AreTrees (trees_from l))
    × (member_nodes d (ids_when b (node r c l)) (g ▷ trees_from l) ≡ node r c l)
members_step d b r c l g h one rest = (
  (one.tree, rest.trees),
  node_is (own_row (first_id (ids_when b (node r c l))) d g) r (tree_below (suc d) g) c
      (member_nodes d (other_ids (ids_when b (node r c l))) (trees_from l)) l
      (ap (λ id. own_row id d g) (first_id-when b r c l h) ∙ one.own) one.below
      (ap (λ ids. member_nodes d ids (trees_from l)) (other_ids-when b r c l) ∙ rest.nodes),
)

-- a forest that fits is that of the geometries that it gives
pub rebuilt : (d : ℕ) (p f : Option Row) (n : Nodes) (b : Bool) → is_geometry p ≡ true → Fit d p f n
    → mode p f n ≡ b → Members d b n
rebuilt d p f none b w fit m = record { trees = tt; nodes = refl }
rebuilt d p f (node r c l) b w fit m =
    let h = facts p f r fit.1 in
    let has = mode_here p f r c l h ∙ m in
    let rest = rebuilt d p (next_first p f r) l b w fit.3 (mode_next p f r c l ∙ m) in
    elim (cases_Bool (is_collection r.kind)) [
      | inl coll ↦
          let inner = rebuilt (suc d) (Some r) None c (first_has_id c) coll fit.2 refl in
          let all = members_step d b r c l (collection (number_in r.precision) (ids_of c)
          (trees_from c)) has (rebuilt_collection d p f r c w fit.0 h coll fit.2 inner.trees
          inner.nodes) rest in
          record { trees = rw coll all.0; nodes = rw coll all.1 }
      | inr lacks ↦
          let all = members_step d b r c l (simple (number_in r.precision)
          (simple_from r.kind r.points c)) has (rebuilt_simple d p f r c w fit.0 h lacks fit.2)
          rest in
          record { trees = rw lacks all.0; nodes = rw lacks all.1 }
    ]
