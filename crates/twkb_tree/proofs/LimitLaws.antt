-- The limits on rows, and on the geometries that they are the rows of.
use mathlib.Core.List.{reverse_aux}
use Rattle.std.proofs.Common.{◌≡◌, List, [], ◌∷◌, ◌++◌, length, None, refl, sym, ◌∙◌, ap, subst, arith, ℕ, zero, suc}
use Rattle.std.proofs.Common.{◌<◌, append_assoc, append-nil, ◌≤◌, true, Option, inl, inr, ◌+◌, ◌==◌, false, eq-eqb}
use Rattle.std.proofs.Common.{ne_eqb}
use Rattle.std.specs.Prelude.{reverse, nat_le}
use Rattle.std.specs.List.{AllByRecursion}
use Rattle.std.proofs.lemmas.List.{reverse-append}
use Rattle.std.proofs.lemmas.Grind.{reverse_onto}
use Rattle.std.proofs.lemmas.Bool.{cases_Bool}
use Rattle.std.proofs.lemmas.Bool.Decides.{nat_tests}
use Rattle.twkb_tree.specs.Limits.{Allowance, IsAllowance, largest_limits}
use Rattle.twkb_tree.specs.Tree.{Tree, Trees, end, ◌▷◌, trees, members, AreTrees, nodes}
use Rattle.twkb_tree.specs.Rows.{Row, rows, rows_of, AreValid, AreValidRows, AreGeometries, BeginValidRows}
use Rattle.twkb_tree.specs.Rows.{AreRowsOfOne, AreValidRowsOfOne}
use Rattle.twkb_tree.proofs.TreeLemmas.{length-rows_with}
use Rattle.twkb_tree.specs.Admits.{IsAdmitted, geometry_rows, weight, Accepts, AreAccepted, since_root, IsOneRoot}
use Rattle.twkb_tree.specs.Admits.{Continues, is_member, nest_kept, point_count}
use Rattle.twkb_tree.specs.declared.limits.TheConstants.{NEST_CAP}
use Rattle.twkb_tree.proofs.RowForest.{past, member_nodes}
use Rattle.twkb_tree.proofs.RowSteps.{past-listed, at_roots, rows_admitted, listed-members, fit_roots, Along}
use Rattle.twkb_tree.proofs.RowSteps.{UnderParent, along_locally, locally_along}
use Rattle.twkb_tree.proofs.RowLaws.{rows_all, rows_all-trees, rows_of-members, admitted_forest, Nests, NestAll}
use Rattle.twkb_tree.proofs.RowLaws.{roots_nest, nest_roots, HasPointsInRange, point_count-rows, flat_in_range}
use Rattle.twkb_tree.proofs.RowLaws.{rows_in_range, IsDeeper, AreDeep, one_tree, only_root, rest_deep, root_depth}
use Rattle.twkb_tree.proofs.RowLaws.{one_root, Adds, TotalAll, totals, of_totals, since_root-over, deep_reverse}
use Rattle.twkb_tree.proofs.RowLaws.{all_join, all_apart}

-- ==== Rows are accepted one by one exactly if they are the rows of valid geometries.

-- ---- sums

-- counting one for each row gives the number of rows
weight-one : (rs : List Row) → weight (λ r. 1) rs ≡ length rs
weight-one [] = refl
weight-one (r ∷ rs) = omega (arith, weight-one rs)

-- counting one for each row of a geometry gives its number of nodes
weight-nodes : (g : Tree) → weight (λ r. 1) (rows 0 g) ≡ nodes g
weight-nodes g = weight-one (rows 0 g) ∙ length-rows_with None 0 g

-- ---- the range of points

-- the points of the row are in range, whatever came before it
abbrev InRange : List Row → Row → Type 0
InRange before r = HasPointsInRange r

-- rows with their points in range along the reversed rows have their points in range
range_onto : (rs before : List Row) → Along InRange (reverse_aux rs before)
    → AllByRecursion HasPointsInRange rs × Along InRange before
range_onto [] before a = (tt, a)
range_onto (r ∷ rs) before a = let h = range_onto rs (r ∷ before) a in ((h.1.0, h.0), h.1.1)

-- rows with their points in range have them so along the reversed rows
onto_range : (rs before : List Row) → AllByRecursion HasPointsInRange rs → Along InRange before
    → Along InRange (reverse_aux rs before)
onto_range [] before h a = a
onto_range (r ∷ rs) before h a = onto_range rs (r ∷ before) h.1 (h.0, a)

-- ---- all parts of acceptance together

-- acceptance of rows, part by part
record Parts (l : Allowance) (before : List Row) : Type 0 where
  pub admitted : IsAdmitted before
  pub in_range : Along InRange before
  pub nest : Along (UnderParent (Nests l)) before
  pub nodes : Along (Adds (λ r. 1) l.nodes) before
  pub points : Along (Adds (λ r. length r.points) l.points) before

-- accepted rows keep each part
parts : (l : Allowance) (before : List Row) → AreAccepted l before → Parts l before
parts l [] a = record { admitted = tt; in_range = tt; nest = tt; nodes = tt; points = tt }
parts l (r ∷ before) a =
    let p = parts l before a.1 in
    record {
      admitted = (a.0.admitted, p.admitted);
      in_range = (a.0.in_range, p.in_range);
      nest = (a.0.nest, p.nest);
      nodes = ((let h = a.0.nodes in omega (arith, h, weight-one (geometry_rows r.depth before))), p.nodes);
      points = (a.0.points, p.points);
    }

-- rows that keep each part are accepted
whole : (l : Allowance) (before : List Row) → Parts l before → AreAccepted l before
whole l [] p = tt
whole l (r ∷ before) p = (
  record {
    admitted = p.admitted.0;
    nest = p.nest.0;
    nodes = (let h = p.nodes.0 in omega (arith, h, weight-one (geometry_rows r.depth before)));
    in_range = p.in_range.0;
    points = p.points.0;
  },
  whole l before (record {
    admitted = p.admitted.1;
    in_range = p.in_range.1;
    nest = p.nest.1;
    nodes = p.nodes.1;
    points = p.points.1;
  }),
)

-- the facts about rows that make their members valid
record OfValid (l : Allowance) (gs : Trees) : Type 0 where
  pub are : AreTrees gs
  pub in_range : AllByRecursion HasPointsInRange (rows_all gs)
  pub nest : NestAll l gs
  pub nodes : TotalAll (λ r. 1) l.nodes gs
  pub points : TotalAll (λ r. length r.points) l.points gs

-- members are valid if their rows have these facts
valid_all : (l : Allowance) (gs : Trees) → OfValid l gs → AreValid l (members gs)
valid_all l end v = tt
valid_all l (g ▷ gs) v =
    let range = all_apart HasPointsInRange (rows 0 g) (rows_all gs) v.in_range in (
      record {
        tree = v.are.0;
        in_range = flat_in_range g range.0;
        nest_kept = v.nest.0;
        nodes_kept = (let h = v.nodes.0 in omega (arith, h, weight-nodes g));
        points_kept = (let h = v.points.0 in omega (arith, h, point_count-rows g));
      },
      valid_all l gs (record {
        are = v.are.1;
        in_range = range.1;
        nest = v.nest.1;
        nodes = v.nodes.1;
        points = v.points.1;
      }),
    )

-- the rows of valid members have these facts
of_valid : (l : Allowance) (gs : List Tree) → AreValid l gs → OfValid l (trees gs)
of_valid l [] v = record { are = tt; in_range = tt; nest = tt; nodes = tt; points = tt }
of_valid l (g ∷ gs) v =
    let rest = of_valid l gs v.1 in
    record {
      are = (v.0.tree, rest.are);
      in_range = all_join HasPointsInRange (rows 0 g) (rows_all (trees gs))
          (rows_in_range g v.0.in_range) rest.in_range;
      nest = (v.0.nest_kept, rest.nest);
      nodes = ((let h = v.0.nodes_kept in omega (arith, h, weight-nodes g)), rest.nodes);
      points = ((let h = v.0.points_kept in omega (arith, h, point_count-rows g)), rest.points);
    }

-- rows accepted one by one are the rows of valid geometries
pub valid_rows : (l : Allowance) (rs : List Row) → AreAccepted l (reverse rs) → AreValidRows l rs
valid_rows l rs a =
    let p = parts l (reverse rs) a in
    let named = admitted_forest rs p.admitted in
    let gs = named.0 in
    let n = member_nodes 0 None gs in
    let past_is : past n [] ≡ reverse rs = past-listed n ∙ ap reverse (listed-members 0 None gs ∙ named.2) in
    let onto_is : reverse_aux (rows_all gs) [] ≡ reverse rs = ap reverse named.2 in
    let nest = along_locally (Nests l) 0 None None n [] (fit_roots gs named.1) at_roots
    (subst (Along (UnderParent (Nests l))) (sym past_is) p.nest) in
    let nodes = totals (λ r. 1) l.nodes gs [] named.1 (subst (Along (Adds (λ r. 1) l.nodes)) (sym onto_is) p.nodes) in
    let points = totals (λ r. length r.points) l.points gs [] named.1
    (subst (Along (Adds (λ r. length r.points) l.points)) (sym onto_is) p.points) in
    let range = range_onto (rows_all gs) [] (subst (Along InRange) (sym onto_is) p.in_range) in (
      members gs,
      valid_all l gs (record {
        are = named.1;
        in_range = range.0;
        nest = roots_nest l gs nest.0;
        nodes = nodes.0;
        points = points.0;
      }),
      rows_of-members gs ∙ named.2,
    )

-- the rows of valid geometries are accepted one by one
pub accepted_rows : (l : Allowance) (rs : List Row) → AreValidRows l rs → AreAccepted l (reverse rs)
accepted_rows l rs v =
    let gs = trees v.0 in
    let f = of_valid l v.0 v.1 in
    let same : rows_all gs ≡ rs = rows_all-trees v.0 ∙ v.2 in
    let n = member_nodes 0 None gs in
    let past_is : past n [] ≡ reverse rs = past-listed n ∙ ap reverse (listed-members 0 None gs ∙ same) in
    let onto_is : reverse_aux (rows_all gs) [] ≡ reverse rs = ap reverse same in
    whole l (reverse rs) (record {
      admitted = subst IsAdmitted past_is (rows_admitted n (fit_roots gs f.are));
      in_range = subst (Along InRange) onto_is (onto_range (rows_all gs) [] f.in_range tt);
      nest = subst (Along (UnderParent (Nests l))) past_is
          (locally_along (Nests l) 0 None None n [] (fit_roots gs f.are) at_roots
          (nest_roots l gs f.nest) tt);
      nodes = subst (Along (Adds (λ r. 1) l.nodes)) onto_is (of_totals (λ r. 1) l.nodes gs [] f.are f.nodes tt);
      points = subst (Along (Adds (λ r. length r.points) l.points)) onto_is
          (of_totals (λ r. length r.points) l.points gs [] f.are f.points tt);
    })

-- ---- one more row, and prefixes

-- rows before accepted rows are accepted
accepted_tail : (l : Allowance) (xs ys : List Row) → AreAccepted l (xs ++ ys) → AreAccepted l ys
accepted_tail l [] ys h = h
accepted_tail l (x ∷ xs) ys h = accepted_tail l xs ys h.1

-- a prefix of rows of valid geometries is rows of valid geometries
pub valid_front : (l : Allowance) (front more : List Row) → AreValidRows l (front ++ more) → AreValidRows l front
valid_front l front more v =
    valid_rows l front (accepted_tail l (reverse more) (reverse front)
    (subst (AreAccepted l) (reverse-append front more) (accepted_rows l (front ++ more) v)))

-- rows of valid geometries with one more accepted row are rows of valid geometries
pub row_accepted : (l : Allowance) (rs : List Row) (r : Row) → AreValidRows l rs
    → Accepts l (reverse rs) r → AreValidRows l (rs ++ r ∷ [])
row_accepted l rs r v h = valid_rows l (rs ++ r ∷ [])
    (subst (AreAccepted l) (sym (reverse-append rs (r ∷ []))) (h, accepted_rows l rs v))

-- the last of the rows of valid geometries is accepted after the others
pub accepts_row : (l : Allowance) (rs : List Row) (r : Row) → AreValidRows l (rs ++ r ∷ []) → Accepts l (reverse rs) r
accepts_row l rs r v = (subst (AreAccepted l) (reverse-append rs (r ∷ [])) (accepted_rows l (rs ++ r ∷ []) v)).0

-- ==== Rows of one valid geometry, and rows with which none begins.

-- ---- beginnings of rows of valid geometries

-- a beginning of rows of valid geometries is itself such rows
pub begun_are : (l : Allowance) (rs : List Row) → BeginValidRows l rs → AreValidRows l rs
begun_are l rs b = valid_front l rs b.0 b.1

-- rows of valid geometries are a beginning of such rows
pub are_begun : (l : Allowance) (rs : List Row) → AreValidRows l rs → BeginValidRows l rs
are_begun l rs v = ([], subst (AreValidRows l) (sym (append-nil rs)) v)

-- the last row of such a beginning is accepted after the others
pub accepts_begun : (l : Allowance) (rs : List Row) (r : Row) → BeginValidRows l (rs ++ r ∷ [])
    → Accepts l (reverse rs) r
accepts_begun l rs r b = accepts_row l rs r (begun_are l (rs ++ r ∷ []) b)

-- an accepted row makes such a beginning longer
pub accepted_begins : (l : Allowance) (rs : List Row) (r : Row) → AreValidRows l rs
    → Accepts l (reverse rs) r → BeginValidRows l (rs ++ r ∷ [])
accepted_begins l rs r v h = are_begun l (rs ++ r ∷ []) (row_accepted l rs r v h)

-- no rows of valid geometries begin with a row that is not accepted
pub refused_begins_none : (l : Allowance) (rs : List Row) (r : Row) (more : List Row)
    → (Accepts l (reverse rs) r → ⊥) → AreValidRows l (rs ++ r ∷ more) → ⊥
refused_begins_none l rs r more refused v = refused
    (accepts_begun l rs r (more, subst (AreValidRows l) (sym (append_assoc rs (r ∷ []) more)) v))

-- ---- one geometry

-- valid geometries are geometries
are_geometries : (l : Allowance) (gs : List Tree) → AreValid l gs → AreGeometries gs
are_geometries l [] v = tt
are_geometries l (g ∷ gs) v = (v.0.tree, are_geometries l gs v.1)

-- rows of one valid geometry are rows of valid geometries
valid_as_list : (l : Allowance) (s : Row) (rs : List Row) → AreValidRowsOfOne l (s ∷ rs) → AreValidRows l (s ∷ rs)
valid_as_list l s rs a = (a.0 ∷ [], (a.1, tt), one_tree a.0 ∙ a.2)

-- rows of one valid geometry, or no rows, are rows of valid geometries
pub valid_list : (l : Allowance) (rs : List Row) → AreValidRowsOfOne l rs → AreValidRows l rs
valid_list l [] a = ([], tt, refl)
valid_list l (s ∷ rs) a = valid_as_list l s rs a

-- rows of one valid geometry are rows of one geometry
pub of_one : (l : Allowance) (rs : List Row) → AreValidRowsOfOne l rs → AreRowsOfOne rs
of_one l [] a = tt
of_one l (s ∷ rs) a = (a.0, a.1.tree, a.2)

-- rows of valid geometries without a second root are rows of one valid geometry
one_of_list : (l : Allowance) (s : Row) (rs : List Row) → AreValidRows l (s ∷ rs) → AreDeep 1 rs
    → AreValidRowsOfOne l (s ∷ rs)
one_of_list l s rs v deep =
    let one = only_root v.0 s rs (are_geometries l v.0 v.1) v.2 deep in
    let valid = subst (AreValid l) one.2 v.1 in
    (one.0, valid.0, sym (one_tree one.0) ∙ ap rows_of (sym one.2) ∙ v.2)

-- the rows after the first are below the root
deep_after : (l : Allowance) (s : Row) (rs : List Row) → AreValidRowsOfOne l (s ∷ rs) → AreDeep 1 rs
deep_after l s rs a = rest_deep a.0 s rs a.1.tree a.2

-- rows of one valid geometry with one more accepted row are rows of one
pub continued : (l : Allowance) (rs : List Row) (r : Row) → AreValidRowsOfOne l rs
    → Continues l rs r → AreValidRowsOfOne l (rs ++ r ∷ [])
continued l [] r a h = one_of_list l r [] (row_accepted l [] r ([], tt, refl) h.0) tt
continued l (s ∷ rs) r a h =
    let root = h.1 in
    one_of_list l s (rs ++ r ∷ []) (row_accepted l (s ∷ rs) r (valid_as_list l s rs a) h.0)
    (all_join (IsDeeper 1) rs (r ∷ []) (deep_after l s rs a) (omega arith, tt))

-- the last of the rows of one valid geometry is accepted after the others
pub continues_row : (l : Allowance) (rs : List Row) (r : Row) → AreValidRowsOfOne l (rs ++ r ∷ []) → Continues l rs r
continues_row l rs r a = (accepts_row l rs r (valid_list l (rs ++ r ∷ []) a), one_root rs r (of_one l (rs ++ r ∷ []) a))

-- a prefix of rows of one valid geometry is rows of one
pub one_valid_front : (l : Allowance) (front more : List Row) → AreValidRowsOfOne l (front ++ more)
    → AreValidRowsOfOne l front
one_valid_front l [] more a = tt
one_valid_front l (s ∷ front) more a =
    one_of_list l s front (valid_front l (s ∷ front) more (valid_as_list l s (front ++ more) a))
    (all_apart (IsDeeper 1) front more (deep_after l s (front ++ more) a)).0

-- ---- all rows of one geometry are counted

-- all rows of one geometry are since its root
pub one_since_root : (rs : List Row) → AreRowsOfOne rs → since_root (reverse rs) ≡ reverse rs
one_since_root [] a = refl
one_since_root (s ∷ rs) a =
    let split : reverse (s ∷ rs) ≡ reverse rs ++ s ∷ [] = reverse_onto rs s [] in
    let deep = deep_reverse rs [] (rest_deep a.0 s rs a.1 a.2) tt in
    let root = root_depth a.0 s [] rs a.1 (append-nil (rows 0 a.0) ∙ a.2) in
    ap since_root split ∙ since_root-over (reverse rs) s [] deep root ∙ sym split

-- for a row below the root, all rows since the root are counted
geometry_rows-below : (d : ℕ) (before : List Row) → 0 < d → geometry_rows d before ≡ since_root before
geometry_rows-below zero before lt = absurd (omega arith)
geometry_rows-below (suc d) before lt = refl

-- all rows of one geometry are counted
pub one_geometry_rows : (rs : List Row) (r : Row) → AreRowsOfOne rs → IsOneRoot rs r
    → geometry_rows r.depth (reverse rs) ≡ reverse rs
one_geometry_rows [] r a root = ap (λ d. geometry_rows d []) root
one_geometry_rows (s ∷ rs) r a root = geometry_rows-below r.depth (reverse (s ∷ rs)) root ∙ one_since_root (s ∷ rs) a

-- ==== Rows accepted within some limits are accepted within the largest.

more_levels : (d m n : ℕ) → m ≤ n → nat_le d m ≡ true → nat_le d n ≡ true
more_levels d m n le e = grind (arith, nat_tests)

nest_largest : (l : Allowance) (p : Option Row) (d : ℕ) → IsAllowance l → nest_kept l p d ≡ true
    → nest_kept largest_limits p d ≡ true
nest_largest l p d sound e = elim (cases_Bool (is_member p)) [
  | inl member ↦ rw member (more_levels d l.nest NEST_CAP sound.nest_cap (rw member at e))
  | inr other ↦ rw other refl
]

pub accepts_largest : (l : Allowance) (before : List Row) (r : Row) → IsAllowance l
    → Accepts l before r → Accepts largest_limits before r
accepts_largest l before r cap a = record {
  admitted = a.admitted;
  nest = nest_largest l _ r.depth cap a.nest;
  nodes = (let n = a.nodes in let c = cap.nodes_cap in omega (arith, n, c));
  in_range = a.in_range;
  points = (let n = a.points in let c = cap.points_cap in omega (arith, n, c));
}

pub continues_largest : (l : Allowance) (rows : List Row) (r : Row) → IsAllowance l
    → Continues l rows r → Continues largest_limits rows r
continues_largest l rows r cap c = (accepts_largest l _ r cap c.0, c.1)

-- ==== The number of rows and points of a geometry so far, after one more row and within the limits.

-- the number of rows is one higher after a row
pub nodes_after : (d : ℕ) (r : Row) (before : List Row) → r.depth ≡ d
    → length (since_root (r ∷ before)) ≡ length (geometry_rows d before) + 1
nodes_after zero r before e = let t : (r.depth == 0) ≡ true = eq-eqb r.depth 0 e in rw t refl
nodes_after (suc d) r before e = let t : (r.depth == 0) ≡ false = ne_eqb r.depth 0
    (λ z. omega arith) in rw t (omega arith)

-- the number of points is higher by those of the row
pub points_after : (d : ℕ) (r : Row) (before : List Row) → r.depth ≡ d
    → point_count (since_root (r ∷ before)) ≡ point_count (geometry_rows d before) + length r.points
points_after zero r before e = let t : (r.depth == 0) ≡ true = eq-eqb r.depth 0 e in rw t (omega arith)
points_after (suc d) r before e = let t : (r.depth == 0) ≡ false = ne_eqb r.depth 0
    (λ z. omega arith) in rw t (omega arith)

-- accepted rows are at most as many as the limits allow
pub nodes_kept : (l : Allowance) (before : List Row) → AreAccepted l before → length (since_root before) ≤ l.nodes
nodes_kept l [] a = omega arith
nodes_kept l (r ∷ before) a = let few = a.0.nodes in omega (arith, few, nodes_after r.depth r before refl)

-- the points of accepted rows are at most as many as the limits allow
pub points_kept : (l : Allowance) (before : List Row) → AreAccepted l before
    → point_count (since_root before) ≤ l.points
points_kept l [] a = omega arith
points_kept l (r ∷ before) a = let few = a.0.points in omega (arith, few, points_after r.depth r before refl)
