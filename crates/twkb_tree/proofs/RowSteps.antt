-- The forest of a geometry's rows: it has these rows, fits, and gives the geometry back.
use mathlib.Core.List.{reverse_aux}
use Rattle.std.proofs.Common.{◌≡◌, ℕ, zero, suc, ◌+◌, ◌<◌, ◌==◌, Bool, true, false, List, [], ◌∷◌, ◌++◌, Option, Some}
use Rattle.std.proofs.Common.{None, refl, sym, ◌∙◌, ap, arith, eq-eqb, ne_eqb, subst, append_assoc, length}
use Rattle.std.specs.Prelude.{reverse, ⊤, ◌&&◌, ℤ, is_some}
use Rattle.std.proofs.lemmas.Bool.Decides.{nat_tests}
use Rattle.twkb_points.specs.Point.{Point}
use Rattle.twkb_tree.specs.Rows.{Row, plain_row, own_row, first_id, other_ids, ring_rows, rows_of_each, rows_below}
use Rattle.twkb_tree.specs.Rows.{rows_with, member_rows, kind_in, own_points, IsAbove}
use Rattle.twkb_tree.specs.Admits.{last_at, first_below, or_else, parent, first_child, steps_to, fits, admits_after}
use Rattle.twkb_tree.specs.Admits.{IsAdmitted, has_same_ids, id_in_range, is_collection}
use Rattle.twkb_tree.specs.Tree.{Tree, Trees, Simple, Ids, simple, collection, end, ◌▷◌, point, line, polygon}
use Rattle.twkb_tree.specs.Tree.{multi_point, multi_line, multi_polygon, IsTree, AreTrees, AreIds, HasIds, IdsFit}
use Rattle.twkb_tree.specs.Tree.{count, members}
use Rattle.twkb_tree.specs.declared.kind.Kind.{Kind}
use Rattle.twkb_tree.specs.declared.kind.Kind.TheVariants as kind
use Rattle.twkb_tree.proofs.RowForest.{both_true, both, Nodes, none, node, listed, past, next_first, Fit, IsDeep, add}
use Rattle.twkb_tree.proofs.RowForest.{each_nodes, ring_nodes, simple_below, tree_below, member_nodes, all_ids}
use Rattle.twkb_tree.proofs.RowForest.{ids_when, ids_of, first_has_id, lines_of, points_of, areas_of, simple_from}
use Rattle.twkb_tree.proofs.RowForest.{tree_from, trees_from, is_id-true, is_precision-true}

-- ==== The rows of a forest that fits are admitted, and admitted rows are those of a forest that fits.

-- reversing joined rows reverses both parts
pub onto-append : (xs ys zs : List Row) → reverse_aux (xs ++ ys) zs ≡ reverse_aux ys (reverse_aux xs zs)
onto-append [] ys zs = refl
onto-append (x ∷ xs) ys zs = onto-append xs ys (x ∷ zs)

-- a forest on top of rows is its rows, reversed, on top of them
past-onto : (n : Nodes) (before : List Row) → past n before ≡ reverse_aux (listed n) before
past-onto none before = refl
past-onto (node r c l) before =
    past-onto l (past c (r ∷ before)) ∙ ap (λ rs. reverse_aux (listed l) rs)
    (past-onto c (r ∷ before)) ∙ sym (onto-append (listed c) (listed l) (r ∷ before))

-- a forest on top of no rows
pub past-listed : (n : Nodes) → past n [] ≡ reverse (listed n)
past-listed n = past-onto n []

-- ---- depths

-- a forest deeper than a depth is deeper than a smaller one
deep_less : (d : ℕ) (f : Nodes) → IsDeep (suc d) f → IsDeep d f
deep_less d none h = tt
deep_less d (node r c l) h = (omega (arith, h.0), deep_less d c h.1, deep_less d l h.2)

-- a forest that fits at a depth is no higher than the depth
pub fit_deep : (d : ℕ) (p f : Option Row) (n : Nodes) → Fit d p f n → IsDeep d n
fit_deep d p f none h = tt
fit_deep d p f (node r c l) h = (
  omega (arith, h.0),
  deep_less d c (fit_deep (suc d) (Some r) None c h.2),
  fit_deep d p (next_first p f r) l h.3,
)

-- ---- what a forest leaves unchanged of the rows before it

-- two depths of different size are different
pub other_depth : (a b : ℕ) → b < a → (a == b) ≡ false
other_depth a b h = ne_eqb a b (λ e. omega arith)

-- a deeper row leaves the last row at a depth unchanged
pub last_at-other : (e : ℕ) (r : Row) (before : List Row) → e < r.depth → last_at e (r ∷ before) ≡ last_at e before
last_at-other e r before h = rw (other_depth r.depth e h) refl

-- choosing between a row and none gives the row
or_else-none : (o : Option Row) → or_else o None ≡ o
or_else-none None = refl
or_else-none (Some r) = refl

-- a deeper row leaves the first row below it unchanged
pub first_below-other : (e : ℕ) (r : Row) (before : List Row) → suc e < r.depth
    → first_below e (r ∷ before) ≡ first_below e before
first_below-other e r before h = rw (
  other_depth r.depth e (omega arith),
  other_depth r.depth
      (suc e) h,
) (or_else-none (first_below e before))

-- a deeper forest leaves the last row at a depth unchanged
pub last_at-past : (e d : ℕ) (n : Nodes) (before : List Row) → IsDeep d n → e < d
    → last_at e (past n before) ≡ last_at e before
last_at-past e d none before h lt = refl
last_at-past e d (node r c l) before h lt =
    last_at-past e d l (past c (r ∷ before)) h.2 lt ∙ last_at-past e d c (r ∷ before) h.1 lt
    ∙ last_at-other e r before (omega (arith, h.0))

-- a deeper forest leaves the first row below it unchanged
pub first_below-past : (e d : ℕ) (n : Nodes) (before : List Row) → IsDeep d n → suc e < d
    → first_below e (past n before) ≡ first_below e before
first_below-past e d none before h lt = refl
first_below-past e d (node r c l) before h lt =
    first_below-past e d l (past c (r ∷ before)) h.2 lt ∙ first_below-past e d c (r ∷ before) h.1 lt
    ∙ first_below-other e r before (omega (arith, h.0))

-- ---- the place of a forest: its parent, and the first child so far

-- a depth below the roots has a parent
abbrev pub HasParent : ℕ → Option Row → Type 0
HasParent zero p = p ≡ None
HasParent (suc d) None = ⊥
HasParent (suc d) (Some p) = ⊤

-- a forest comes under this parent, after this first child
pub record Stands (d : ℕ) (p f : Option Row) (before : List Row) : Type 0 where
  pub under : parent d before ≡ p
  pub first : first_child d before ≡ f
  pub known : HasParent d p

-- the place below a row that has just come
pub stands_below : (d : ℕ) (r : Row) (before : List Row) → r.depth ≡ d → Stands (suc d) (Some r) None (r ∷ before)
stands_below d r before e = let t : (r.depth == d) ≡ true = eq-eqb r.depth d e in
    record { under = rw t refl; first = rw t refl; known = tt }

-- the first child after one more child
first_or : (p f : Option Row) (r : Row) (d : ℕ) → HasParent (suc d) p → or_else f (Some r) ≡ next_first p f r
first_or None f r d h = absurd h
first_or (Some p) None r d h = refl
first_or (Some p) (Some f) r d h = refl

-- the place after a row and the rows below it
pub stands_after : (d : ℕ) (p f : Option Row) (r : Row) (c : Nodes) (before : List Row)
    → r.depth ≡ d → IsDeep (suc d) c → Stands d p f before
    → Stands d p (next_first p f r) (past c (r ∷ before))
stands_after zero p f r c before e deep s = record { under = s.under; first = rw s.known refl; known = s.known }
stands_after (suc d) p f r c before e deep s =
    let off : (r.depth == d) ≡ false = other_depth r.depth d (omega arith) in
    let on : (r.depth == suc d) ≡ true = eq-eqb r.depth (suc d) e in
    let here : first_below d (r ∷ before) ≡ or_else (first_below d before) (Some r) = rw (off, on) refl in
    record {
      under = last_at-past d (suc (suc d)) c (r ∷ before) deep (omega arith)
          ∙ last_at-other d r before (omega arith) ∙ s.under;
      first = first_below-past d (suc (suc d)) c (r ∷ before) deep (omega arith) ∙ here
          ∙ ap (λ o. or_else o (Some r)) s.first ∙ first_or p f r d s.known;
      known = s.known;
    }

-- a deeper forest still allows a row at the depth
steps_on : (d : ℕ) (n : Nodes) (before : List Row) → IsDeep d n → steps_to (suc d) before ≡ true
    → steps_to (suc d) (past n before) ≡ true
steps_on d none before h s = s
steps_on d (node r c l) before h s =
    let here : steps_to (suc d) (r ∷ before) ≡ true = grind (arith, nat_tests, h.0) in
    steps_on d l (past c (r ∷ before)) h.2 (steps_on d c (r ∷ before) h.1 here)

-- a row may come at a smaller depth if it may come at a deeper one
steps_less : (d : ℕ) (before : List Row) → steps_to (suc d) before ≡ true → steps_to d before ≡ true
steps_less zero before s = refl
steps_less (suc d) [] s = s
steps_less (suc d) (r ∷ before) s = grind (arith, nat_tests)

-- ---- a forest that fits is admitted

-- the test of a row at a depth
abbrev admits_at : ℕ → List Row → Row → Bool
admits_at d before r = steps_to d before && fits (parent d before) (first_child d before) r

-- the test at a depth is the test at the row's own depth
at_depth : (d : ℕ) (before : List Row) (r : Row) → r.depth ≡ d → admits_after before r ≡ admits_at d before r
at_depth d before r e = ap (λ k. admits_at k before r) e

-- the first row of a forest that fits is admitted
here_admitted : (d : ℕ) (p f : Option Row) (before : List Row) (r : Row) → r.depth ≡ d
    → Stands d p f before → steps_to d before ≡ true → fits p f r ≡ true
    → admits_after before r ≡ true
here_admitted d p f before r e s steps h =
    at_depth d before r e ∙ both (steps_to d before) (fits (parent d before) (first_child d before) r) steps
    (ap (λ q. fits q (first_child d before) r) s.under ∙ ap (λ q. fits p q r) s.first ∙ h)

-- all rows of a forest that fits are admitted
pub admitted : (d : ℕ) (p f : Option Row) (n : Nodes) (before : List Row) → Fit d p f n
    → Stands d p f before → steps_to d before ≡ true → IsAdmitted before
    → IsAdmitted (past n before)
admitted d p f none before fit s steps a = a
admitted d p f (node r c l) before fit s steps a =
    let deep = fit_deep (suc d) (Some r) None c fit.2 in
    let here : admits_after before r ≡ true = here_admitted d p f before r fit.0 s steps fit.1 in
    let one : steps_to (suc d) (r ∷ before) ≡ true = grind (arith, nat_tests, fit.0) in
    let below = admitted (suc d) (Some r) None c (r ∷ before) fit.2 (stands_below d r before fit.0) one (here, a) in
    admitted d p (next_first p f r) l (past c (r ∷ before)) fit.3
    (stands_after d p f r c before fit.0 deep s) (steps_less d (past c (r ∷ before))
    (steps_on d c (r ∷ before) (deep_less d c deep) one)) below

-- ---- admitted rows fit

-- the row added at the end comes last
pub past-add : (k : ℕ) (r : Row) (n : Nodes) (before : List Row) → past (add k r n) before ≡ r ∷ past n before
past-add zero r none before = refl
past-add (suc k) r none before = refl
past-add zero r (node s c l) before = past-add zero r l (past c (s ∷ before))
past-add (suc k) r (node s c none) before = past-add k r c (s ∷ before)
past-add (suc k) r (node s c (node t b l)) before = past-add (suc k) r (node t b l) (past c (s ∷ before))

-- an admitted row fits at the end of a forest
fits_here : (d : ℕ) (p f : Option Row) (r : Row) (before : List Row) → Stands d p f before
    → r.depth ≡ d → admits_after before r ≡ true → fits p f r ≡ true
fits_here d p f r before s e h =
    let two = both_true (steps_to d before) (fits (parent d before) (first_child d before) r)
    (sym (at_depth d before r e) ∙ h) in
    sym (ap (λ q. fits q (first_child d before) r) s.under ∙ ap (λ q. fits p q r) s.first) ∙ two.1

-- one more row beside the last row
fit_last : (d : ℕ) (p f : Option Row) (n : Nodes) (r : Row) (before : List Row) → Fit d p f n
    → Stands d p f before → r.depth ≡ d → admits_after (past n before) r ≡ true
    → Fit d p f (add zero r n)
fit_last d p f none r before fit s e h = (e, fits_here d p f r before s e h, tt, tt)
fit_last d p f (node t c l) r before fit s e h =
    let deep = fit_deep (suc d) (Some t) None c fit.2 in (
      fit.0,
      fit.1,
      fit.2,
      fit_last d p (next_first p f t) l r (past c (t ∷ before)) fit.3
          (stands_after d p f t c before fit.0 deep s) e h,
    )

-- if no row is below yet, a row can't go deeper
abbrev Closed : ℕ → Nodes → List Row → Type 0
Closed d none before = (k : ℕ) → steps_to (suc (d + k)) before ≡ true → ⊥
Closed d (node r c l) before = ⊤

-- below a row that has just come there is no deeper row
closed_below : (d : ℕ) (r : Row) (c : Nodes) (before : List Row) → r.depth ≡ d → Closed (suc d) c (r ∷ before)
closed_below d r none before e = λ k h. grind (arith, nat_tests)
closed_below d r (node s c l) before e = tt

-- one more row, `k` levels down
fit_add : (d k : ℕ) (p f : Option Row) (n : Nodes) (r : Row) (before : List Row) → Fit d p f n
    → Stands d p f before → Closed d n before → r.depth ≡ d + k
    → admits_after (past n before) r ≡ true → Fit d p f (add k r n)
fit_add d zero p f n r before fit s closed e h = fit_last d p f n r before fit s (omega arith) h
fit_add d (suc k) p f none r before fit s closed e h =
    let steps = (both_true (steps_to r.depth before)
    (fits (parent r.depth before) (first_child r.depth before) r) h).0 in
    let e' : r.depth ≡ suc (d + k) = omega arith in
    absurd (closed k (rw e' at steps))
fit_add d (suc k) p f (node t c none) r before fit s closed e h = (
  fit.0,
  fit.1,
  fit_add (suc d) k (Some t) None c r (t ∷ before) fit.2
      (stands_below d t before fit.0) (closed_below d t c before fit.0) (omega arith) h,
  tt,
)
fit_add d (suc k) p f (node t c (node u b l)) r before fit s closed e h =
    let deep = fit_deep (suc d) (Some t) None c fit.2 in (
      fit.0,
      fit.1,
      fit.2,
      fit_add d (suc k) p (next_first p f t) (node u b l) r
          (past c (t ∷ before)) fit.3 (stands_after d p f t c before fit.0 deep s) tt e h,
    )

-- the forest of rows, last one first
abbrev pub forest_of : List Row → Nodes
forest_of [] = none
forest_of (r ∷ before) = add r.depth r (forest_of before)

-- the forest of rows has these rows
pub past-forest_of : (before : List Row) → past (forest_of before) [] ≡ before
past-forest_of [] = refl
past-forest_of (r ∷ before) = past-add r.depth r (forest_of before) [] ∙ ap (λ rs. r ∷ rs) (past-forest_of before)

-- roots have no parent
pub at_roots : Stands 0 None None []
at_roots = record { under = refl; first = refl; known = refl }

-- before the first row there is no deeper row
closed_roots : (n : Nodes) → Closed 0 n []
closed_roots none = λ k h. cc h
closed_roots (node r c l) = tt

-- the forest of admitted rows fits
pub forest_fits : (before : List Row) → IsAdmitted before → Fit 0 None None (forest_of before)
forest_fits [] a = tt
forest_fits (r ∷ before) a =
    let same = past-forest_of before in
    let h : admits_after (past (forest_of before) []) r ≡ true = rw same a.0 in
    fit_add 0 r.depth None None (forest_of before) r [] (forest_fits before a.1) at_roots
    (closed_roots (forest_of before)) (omega arith) h

-- ---- the rows of a forest are admitted, and determine it

-- the rows of a forest that fits are admitted
pub rows_admitted : (n : Nodes) → Fit 0 None None n → IsAdmitted (past n [])
rows_admitted n fit = admitted 0 None None n [] fit at_roots refl tt

-- ==== A fact about each row and its parent, along the rows and along their forest.

-- the fact holds for each row and the rows before it
abbrev pub Along : (List Row → Row → Type 0) → List Row → Type 0
Along Q [] = ⊤
Along Q (r ∷ before) = Q before r × Along Q before

-- the fact holds for each row of a forest and its parent
abbrev pub Locally : (Option Row → Row → Type 0) → Option Row → Nodes → Type 0
Locally Q p none = ⊤
Locally Q p (node r c l) = Q p r × Locally Q (Some r) c × Locally Q p l

-- the fact holds for a row and its parent among the rows before it
abbrev pub UnderParent : (Option Row → Row → Type 0) → List Row → Row → Type 0
UnderParent Q before r = Q (parent r.depth before) r

-- a fact that holds along the rows holds along the forest
pub along_locally : (Q : Option Row → Row → Type 0) (d : ℕ) (p f : Option Row) (n : Nodes)
    (before : List Row) → Fit d p f n → Stands d p f before → Along (UnderParent Q) (past n before)
    → Locally Q p n × Along (UnderParent Q) before
along_locally Q d p f none before fit s a = (tt, a)
along_locally Q d p f (node r c l) before fit s a =
    let deep = fit_deep (suc d) (Some r) None c fit.2 in
    let after = along_locally Q d p (next_first p f r) l (past c (r ∷ before)) fit.3
    (stands_after d p f r c before fit.0 deep s) a in
    let below = along_locally Q (suc d) (Some r) None c (r ∷ before) fit.2 (stands_below d r before fit.0) after.1 in
    let same : parent r.depth before ≡ p = ap (λ k. parent k before) fit.0 ∙ s.under in
    ((subst (λ q. Q q r) same below.1.0, below.0, after.0), below.1.1)

-- a fact that holds along the forest holds along the rows
pub locally_along : (Q : Option Row → Row → Type 0) (d : ℕ) (p f : Option Row) (n : Nodes)
    (before : List Row) → Fit d p f n → Stands d p f before → Locally Q p n
    → Along (UnderParent Q) before → Along (UnderParent Q) (past n before)
locally_along Q d p f none before fit s h a = a
locally_along Q d p f (node r c l) before fit s h a =
    let deep = fit_deep (suc d) (Some r) None c fit.2 in
    let same : parent r.depth before ≡ p = ap (λ k. parent k before) fit.0 ∙ s.under in
    let here : Along (UnderParent Q) (r ∷ before) = (subst (λ q. Q q r) (sym same) h.0, a) in
    locally_along Q d p (next_first p f r) l (past c (r ∷ before)) fit.3
    (stands_after d p f r c before fit.0 deep s) h.2
    (locally_along Q (suc d) (Some r) None c (r ∷ before) fit.2 (stands_below d r before fit.0) h.1 here)

-- ==== Rows determine the forest.

-- rows above a depth are above a greater one
pub above_less : (d : ℕ) (x : List Row) → IsAbove d x → IsAbove (suc d) x
above_less d [] h = tt
above_less d (r ∷ rs) h = omega arith

-- the rows of a forest, or those after it, begin above the next depth
above_next : (d : ℕ) (p f : Option Row) (n : Nodes) (x : List Row) → Fit d p f n → IsAbove d x
    → IsAbove (suc d) (listed n ++ x)
above_next d p f none x fit h = above_less d x h
above_next d p f (node r c l) x fit h = omega (arith, fit.0)

-- the rows of a forest that is not empty differ from rows above its depth
apart : (d : ℕ) (p f : Option Row) (r : Row) (c l : Nodes) (x y : List Row) → Fit d p f (node r c l)
    → IsAbove d x → x ≡ r ∷ y → ⊥
apart d p f r c l [] y fit h e = cc
apart d p f r c l (s ∷ x) y fit h e =
    let same : s ≡ r = cc in
    omega (arith, fit.0, h, ap (λ q. q.depth) same)

-- the rows of a forest and the rows after it determine both
pub one_forest : (d : ℕ) (p f p' f' : Option Row) (m n : Nodes) (x y : List Row) → Fit d p f m
    → Fit d p' f' n → IsAbove d x → IsAbove d y → listed m ++ x ≡ listed n ++ y → (m ≡ n) × (x ≡ y)
one_forest d p f p' f' none none x y a b hx hy e = (refl, e)
one_forest d p f p' f' none (node r c l) x y a b hx hy e = absurd
    (apart d p' f' r c l x ((listed c ++ listed l) ++ y) b hx e)
one_forest d p f p' f' (node r c l) none x y a b hx hy e = absurd
    (apart d p f r c l y ((listed c ++ listed l) ++ x) a hy (sym e))
one_forest d p f p' f' (node r c l) (node s t b) x y fit fit' hx hy e =
    let head : r ≡ s = cc in
    let rest : (listed c ++ listed l) ++ x ≡ (listed t ++ listed b) ++ y = cc in
    let apart' : listed c ++ (listed l ++ x) ≡ listed t ++ (listed b ++ y) =
    sym (append_assoc (listed c) (listed l) x) ∙ rest ∙ append_assoc (listed t) (listed b) y in
    let below = one_forest (suc d) (Some r) None (Some s) None c t (listed l ++ x) (listed b ++ y)
    fit.2 fit'.2 (above_next d p (next_first p f r) l x fit.3 hx)
    (above_next d p' (next_first p' f' s) b y fit'.3 hy) apart' in
    let after = one_forest d p (next_first p f r) p' (next_first p' f' s) l b x y fit.3 fit'.3 hx hy below.1 in
    let c_is = below.0 in
    let l_is = after.0 in
    (cc, after.1)

-- ==== The forest of a geometry's rows has its rows.

-- the rows of the forest of parts
listed-each : {A : Type 0} (row : Option ℤ → A → Row) (below : A → Nodes) (rows : A → List Row)
    → ((x : A) → listed (below x) ≡ rows x) → (ids : Ids) (xs : List A)
    → listed (each_nodes row below ids xs) ≡ rows_of_each (λ id x. row id x ∷ rows x) ids xs
listed-each row below rows same ids [] = refl
listed-each row below rows same ids (x ∷ xs) = rw (same x)
    (ap (λ rs. row (first_id ids) x ∷ (rows x ++ rs))
    (listed-each row below rows same (other_ids ids) xs))

-- the rows of the forest of rings
listed-rings : (d : ℕ) (rings : List (List Point)) → listed (ring_nodes d rings) ≡ ring_rows d rings
listed-rings d rings = listed-each (plain_row d kind.Ring) (λ ring. none) (λ ring. [])
    (λ ring. refl) None rings

-- the rows of the forest below a simple shape
listed-simple : (d : ℕ) (s : Simple) → listed (simple_below d s) ≡ rows_below d s
listed-simple d (polygon rings) = listed-rings d rings
listed-simple d (multi_point ids ps) = listed-each (λ id p. plain_row d kind.Point id (p ∷ []))
    (λ p. none)
    (λ p. []) (λ p. refl) ids ps
listed-simple d (multi_line ids lines) = listed-each (plain_row d kind.Linestring) (λ ps. none)
    (λ ps. []) (λ ps. refl) ids lines
listed-simple d (multi_polygon ids areas) = listed-each (λ id rings. plain_row d kind.Polygon id [])
    (ring_nodes (suc d)) (ring_rows (suc d)) (listed-rings (suc d)) ids areas
listed-simple d _ = refl

mutual
  listed-tree : (id : Option ℤ) (d : ℕ) (g : Tree) → own_row id d g ∷ listed (tree_below (suc d) g) ≡ rows_with id d g
  listed-tree id d (simple p s) = ap (λ rs. own_row id d (simple p s) ∷ rs) (listed-simple (suc d) s)
  listed-tree id d (collection p ids gs) = ap (λ rs. own_row id d (collection p ids gs) ∷ rs)
      (listed-members (suc d) ids gs)

  pub listed-members : (d : ℕ) (ids : Ids) (gs : Trees) → listed (member_nodes d ids gs) ≡ member_rows d ids gs
  listed-members d ids end = refl
  listed-members d ids (g ▷ gs) =
      ap (λ rs. rs ++ listed (member_nodes d (other_ids ids) gs)) (listed-tree (first_id ids) d g)
      ∙ ap (λ rs. rows_with (first_id ids) d g ++ rs) (listed-members d (other_ids ids) gs)

-- ==== The forest of a geometry's rows fits.

-- ids that suit a first child: all of them if it has one, none if not
abbrev Suits : Option Row → Ids → ℕ → Type 0
Suits None None n = ⊤
Suits None (Some ids) n = (length ids ≡ n) × AreIds ids
Suits (Some r) None n = is_some r.id ≡ false
Suits (Some r) (Some ids) n = (length ids ≡ n) × AreIds ids × (is_some r.id ≡ true)

-- an id suits a first child: it is there exactly if the child has one
abbrev Goes : Option Row → Option ℤ → Type 0
Goes f id = (has_same_ids f id ≡ true) × (id_in_range id ≡ true)

-- the next id suits the first child
same_ids : (f : Option Row) (ids : Ids) (n : ℕ) (r : Row) → Suits f ids (suc n) → r.id ≡ first_id ids → Goes f r.id
same_ids None None n r s e = (refl, rw e refl)
same_ids None (Some []) n r s e = absurd (omega (arith, s.0))
same_ids None (Some (id ∷ ids)) n r s e = (refl, rw e (is_id-true id s.1.0))
same_ids (Some t) None n r s e = (rw (s, e) refl, rw e refl)
same_ids (Some t) (Some []) n r s e = absurd (omega (arith, s.0))
same_ids (Some t) (Some (id ∷ ids)) n r s e = (rw (s.2, e) refl, rw e (is_id-true id s.1.0))

-- the ids after the next one suit the first child
suits_on : (p : Row) (f : Option Row) (ids : Ids) (n : ℕ) (r : Row) → Suits f ids (suc n)
    → r.id ≡ first_id ids → Suits (next_first (Some p) f r) (other_ids ids) n
suits_on p None None n r s e = rw e refl
suits_on p None (Some []) n r s e = absurd (omega (arith, s.0))
suits_on p None (Some (id ∷ ids)) n r s e = (omega (arith, s.0), s.1.1, rw e refl)
suits_on p (Some t) None n r s e = s
suits_on p (Some t) (Some []) n r s e = absurd (omega (arith, s.0))
suits_on p (Some t) (Some (id ∷ ids)) n r s e = (omega (arith, s.0), s.1.1, s.2)

-- the ids of members suit having no first child yet
suits_first : (ids : Ids) (n : ℕ) → HasIds ids n → Suits None ids n
suits_first None n h = tt
suits_first (Some ids) n h = (h.1, h.2)

-- parts fit if each row fits
fit_each : {A : Type 0} (d : ℕ) (p : Row) (row : Option ℤ → A → Row) (below : A → Nodes)
    (f : Option Row) (ids : Ids) (xs : List A)
    → ((id : Option ℤ) (x : A) → (row id x).depth ≡ d) → ((id : Option ℤ) (x : A) → (row id x).id ≡ id)
    → ((f : Option Row) (id : Option ℤ) (x : A) → Goes f (row id x).id → fits (Some p) f (row id x) ≡ true)
    → ((id : Option ℤ) (x : A) → Fit (suc d) (Some (row id x)) None (below x))
    → Suits f ids (length xs) → Fit d (Some p) f (each_nodes row below ids xs)
fit_each d p row below f ids [] at id_is fit deeper s = tt
fit_each d p row below f ids (x ∷ xs) at id_is fit deeper s = (
  at (first_id ids) x,
  fit f (first_id ids) x (same_ids f ids (length xs) (row (first_id ids) x) s (id_is (first_id ids) x)),
  deeper (first_id ids) x,
  fit_each d p row below (next_first (Some p) f (row (first_id ids) x)) (other_ids ids) xs at id_is
      fit deeper (suits_on p f ids (length xs) (row (first_id ids) x) s (id_is (first_id ids) x)),
)

-- a ring fits under a polygon
ring_fits : (p : Row) (f : Option Row) (d : ℕ) (ps : List Point) → p.kind ≡ kind.Polygon
    → Suits f None 0 → fits (Some p) f (plain_row d kind.Ring None ps) ≡ true
ring_fits p None d [] e s = rw e refl
ring_fits p None d (q ∷ ps) e s = rw e refl
ring_fits p (Some t) d [] e s = rw (e, s) refl
ring_fits p (Some t) d (q ∷ ps) e s = rw (e, s) refl

-- having no ids still suits the first child after a ring
suits_none : (p : Row) (f : Option Row) (d : ℕ) (ps : List Point) → Suits f None 0
    → Suits (next_first (Some p) f (plain_row d kind.Ring None ps)) None 0
suits_none p None d ps s = refl
suits_none p (Some t) d ps s = s

-- the rows of rings fit
fit_rings : (d : ℕ) (p : Row) (f : Option Row) (rings : List (List Point)) → p.kind ≡ kind.Polygon
    → Suits f None 0 → Fit d (Some p) f (ring_nodes d rings)
fit_rings d p f [] e s = tt
fit_rings d p f (ring ∷ rings) e s = (
  refl,
  ring_fits p f d ring e s,
  tt,
  fit_rings d p (next_first (Some p) f (plain_row d kind.Ring None ring)) rings e
      (suits_none p f d ring s),
)

-- a point fits under a multipoint
point_fits : (p : Row) (f : Option Row) (d : ℕ) (id : Option ℤ) (q : Point)
    → p.kind ≡ kind.MultiPoint → Goes f id → fits (Some p) f
    (plain_row d kind.Point id (q ∷ [])) ≡ true
point_fits p f d id q e h = rw (e, h.0, h.1) refl

-- a linestring fits under a multilinestring
line_fits : (p : Row) (f : Option Row) (d : ℕ) (id : Option ℤ) (ps : List Point)
    → p.kind ≡ kind.MultiLinestring → Goes f id → fits (Some p) f
    (plain_row d kind.Linestring id ps) ≡ true
line_fits p f d id [] e h = rw (e, h.0, h.1) refl
line_fits p f d id (q ∷ ps) e h = rw (e, h.0, h.1) refl

-- a polygon fits under a multipolygon
area_fits : (p : Row) (f : Option Row) (d : ℕ) (id : Option ℤ) → p.kind ≡ kind.MultiPolygon
    → Goes f id → fits (Some p) f (plain_row d kind.Polygon id []) ≡ true
area_fits p f d id e h = rw (e, h.0, h.1) refl

-- the rows below a simple shape fit
fit_simple : (d : ℕ) (r : Row) (s : Simple) → r.kind ≡ kind_in s → IdsFit s → Fit d (Some r) None (simple_below d s)
fit_simple d r (polygon rings) e h = fit_rings d r None rings e tt
fit_simple d r (multi_point ids ps) e h =
    fit_each d r (λ id p. plain_row d kind.Point id (p ∷ [])) (λ p. none) None ids ps (λ id x. refl)
    (λ id x. refl) (λ f id q. point_fits r f d id q e) (λ id x. tt)
    (suits_first ids (length ps) h)
fit_simple d r (multi_line ids lines) e h =
    fit_each d r (plain_row d kind.Linestring) (λ ps. none) None ids lines (λ id x. refl)
    (λ id x. refl) (λ f id ps. line_fits r f d id ps e) (λ id x. tt)
    (suits_first ids (length lines) h)
fit_simple d r (multi_polygon ids areas) e h =
    fit_each d r (λ id rings. plain_row d kind.Polygon id []) (ring_nodes (suc d)) None ids areas
    (λ id x. refl) (λ id x. refl) (λ f id rings. area_fits r f d id e)
    (λ id rings. fit_rings (suc d) (plain_row d kind.Polygon id []) None rings refl tt)
    (suits_first ids (length areas) h)
fit_simple d r _ e h = tt

-- the parent of a geometry is a collection, or it is a root without an id
abbrev pub IsRoom : Option Row → Option ℤ → Type 0
IsRoom None id = id ≡ None
IsRoom (Some p) id = p.kind ≡ kind.Collection

-- the row of a geometry itself fits
own_row_fits : (p f : Option Row) (id : Option ℤ) (d : ℕ) (g : Tree) → IsTree g → IsRoom p id
    → Goes f (own_row id d g).id → fits p f (own_row id d g) ≡ true
own_row_fits None f id d (simple q (point None)) t e h = rw (e, is_precision-true q t.0, rw e at h.0) refl
own_row_fits None f id d (simple q (line [])) t e h = rw (e, is_precision-true q t.0, rw e at h.0) refl
own_row_fits None f id d (simple q _) t e h = rw (e, is_precision-true q t.0, rw e at h.0) refl
own_row_fits None f id d (collection q ids gs) t e h = rw (e, is_precision-true q t.0, rw e at h.0) refl
own_row_fits (Some p) f id d (simple q (point None)) t e h = rw (e, is_precision-true q t.0, h.0, h.1) refl
own_row_fits (Some p) f id d (simple q (line [])) t e h = rw (e, is_precision-true q t.0, h.0, h.1) refl
own_row_fits (Some p) f id d (simple q _) t e h = rw (e, is_precision-true q t.0, h.0, h.1) refl
own_row_fits (Some p) f id d (collection q ids gs) t e h = rw (e, is_precision-true q t.0, h.0, h.1) refl

-- the id of the row is the given one
pub own_row-id : (id : Option ℤ) (d : ℕ) (g : Tree) → (own_row id d g).id ≡ id
own_row-id id d (simple q s) = refl
own_row-id id d (collection q ids gs) = refl

-- the depth of the row is the given one
pub own_row-depth : (id : Option ℤ) (d : ℕ) (g : Tree) → (own_row id d g).depth ≡ d
own_row-depth id d (simple q s) = refl
own_row-depth id d (collection q ids gs) = refl

mutual
  fit_below : (d : ℕ) (id : Option ℤ) (g : Tree) → IsTree g
      → Fit (suc d) (Some (own_row id d g)) None (tree_below (suc d) g)
  fit_below d id (simple q s) t = fit_simple (suc d) (own_row id d (simple q s)) s refl t.1
  fit_below d id (collection q ids gs) t = fit_members (suc d) (own_row id d (collection q ids gs))
      None ids gs refl t.2 (suits_first ids (count gs) t.1)

  fit_members : (d : ℕ) (p : Row) (f : Option Row) (ids : Ids) (gs : Trees)
      → p.kind ≡ kind.Collection → AreTrees gs → Suits f ids (count gs)
      → Fit d (Some p) f (member_nodes d ids gs)
  fit_members d p f ids end e t s = tt
  fit_members d p f ids (g ▷ gs) e t s =
      let r = own_row (first_id ids) d g in
      let id_is = own_row-id (first_id ids) d g in (
        own_row-depth (first_id ids) d g,
        own_row_fits (Some p) f (first_id ids) d g t.0 e (same_ids f ids (count gs) r s id_is),
        fit_below d (first_id ids) g t.0,
        fit_members d p (next_first (Some p) f r) (other_ids ids) gs e t.1 (suits_on p f ids (count gs) r s id_is),
      )

-- the forest of roots fits
pub fit_roots : (gs : Trees) → AreTrees gs → Fit 0 None None (member_nodes 0 None gs)
fit_roots end t = tt
fit_roots (g ▷ gs) t = (
  own_row-depth None 0 g,
  own_row_fits None None None 0 g t.0 refl
      (refl, ap id_in_range (own_row-id None 0 g)),
  fit_below 0 None g t.0,
  fit_roots gs t.1,
)

-- ==== The forest of a geometry's rows gives the geometry back.

-- the ids of parts, if they have any
all_ids-each : {A : Type 0} (row : Option ℤ → A → Row) (below : A → Nodes) (ids : List ℤ)
    (xs : List A) → ((id : Option ℤ) (x : A) → (row id x).id ≡ id) → length ids ≡ length xs
    → all_ids (each_nodes row below (Some ids) xs) ≡ ids
all_ids-each row below [] [] at e = refl
all_ids-each row below (id ∷ ids) (x ∷ xs) at e = rw (at (Some id) x)
    (ap (λ is. id ∷ is) (all_ids-each row below ids xs at (omega arith)))
all_ids-each row below _ _ at e = absurd (omega arith)

-- the ids of parts
ids_of-each : {A : Type 0} (row : Option ℤ → A → Row) (below : A → Nodes) (ids : Ids) (xs : List A)
    → ((id : Option ℤ) (x : A) → (row id x).id ≡ id) → HasIds ids (length xs)
    → ids_of (each_nodes row below ids xs) ≡ ids
ids_of-each row below None [] at h = refl
ids_of-each row below None (x ∷ xs) at h = rw (at None x) refl
ids_of-each row below (Some ids) [] at h = absurd (omega (arith, h.0))
ids_of-each row below (Some []) (x ∷ xs) at h = absurd (omega (arith, h.1))
ids_of-each row below (Some (id ∷ ids)) (x ∷ xs) at h =
    let one = all_ids-each row below (id ∷ ids) (x ∷ xs) at h.1 in
    let has : first_has_id (each_nodes row below (Some (id ∷ ids)) (x ∷ xs)) ≡ true = rw (at (Some id) x) refl in
    ap (λ b. ids_when b (each_nodes row below (Some (id ∷ ids)) (x ∷ xs))) has ∙ ap (λ is. Some is) one

-- the forest of members is that of their list
member_nodes-each : (d : ℕ) (ids : Ids) (gs : Trees) → member_nodes d ids gs
    ≡ each_nodes (λ id g. own_row id d g) (tree_below (suc d)) ids (members gs)
member_nodes-each d ids end = refl
member_nodes-each d ids (g ▷ gs) = ap (node (own_row (first_id ids) d g) (tree_below (suc d) g))
    (member_nodes-each d (other_ids ids) gs)

-- there are as many in the list as members
pub length-members : (gs : Trees) → length (members gs) ≡ count gs
length-members end = refl
length-members (g ▷ gs) = ap suc (length-members gs)

-- the ids of members
ids_of-members : (d : ℕ) (ids : Ids) (gs : Trees) → HasIds ids (count gs) → ids_of (member_nodes d ids gs) ≡ ids
ids_of-members d ids gs h = ap ids_of (member_nodes-each d ids gs)
    ∙ ids_of-each (λ id g. own_row id d g) (tree_below (suc d)) ids (members gs)
    (λ id g. own_row-id id d g) (subst (HasIds ids) (sym (length-members gs)) h)

-- the forest of rings or of linestrings gives them
lines_of-each : (d : ℕ) (k : Kind) (ids : Ids) (lines : List (List Point))
    → lines_of (each_nodes (plain_row d k) (λ ps. none) ids lines) ≡ lines
lines_of-each d k ids [] = refl
lines_of-each d k ids (ps ∷ lines) = ap (λ ls. ps ∷ ls) (lines_of-each d k (other_ids ids) lines)

-- the forest of points gives the points
points_of-points : (d : ℕ) (ids : Ids) (ps : List Point)
    → points_of (each_nodes (λ id p. plain_row d kind.Point id (p ∷ [])) (λ p. none) ids ps) ≡ ps
points_of-points d ids [] = refl
points_of-points d ids (p ∷ ps) = ap (λ ls. p ∷ ls) (points_of-points d (other_ids ids) ps)

-- the forest of polygons gives the polygons
areas_of-areas : (d : ℕ) (ids : Ids) (areas : List (List (List Point)))
    → areas_of (each_nodes (λ id rings. plain_row d kind.Polygon id []) (ring_nodes (suc d)) ids
    areas) ≡ areas
areas_of-areas d ids [] = refl
areas_of-areas d ids (rings ∷ areas) = rw (lines_of-each (suc d) kind.Ring None rings)
    (ap (λ ls. rings ∷ ls) (areas_of-areas d (other_ids ids) areas))

-- the forest below a simple shape gives the shape
simple_from-below : (d : ℕ) (s : Simple) → IdsFit s → simple_from (kind_in s) (own_points s) (simple_below d s) ≡ s
simple_from-below d (point None) h = refl
simple_from-below d (polygon rings) h = ap (λ ls. polygon ls) (lines_of-each d kind.Ring None rings)
simple_from-below d (multi_point ids ps) h =
    ap (λ is. multi_point is (points_of (simple_below d (multi_point ids ps))))
    (ids_of-each (λ id p. plain_row d kind.Point id (p ∷ [])) (λ p. none) ids ps
    (λ id x. refl) h)
    ∙ ap (λ ls. multi_point ids ls) (points_of-points d ids ps)
simple_from-below d (multi_line ids lines) h =
    ap (λ is. multi_line is (lines_of (simple_below d (multi_line ids lines))))
    (ids_of-each (plain_row d kind.Linestring) (λ ps. none) ids lines (λ id x. refl) h)
    ∙ ap (λ ls. multi_line ids ls) (lines_of-each d kind.Linestring ids lines)
simple_from-below d (multi_polygon ids areas) h =
    ap (λ is. multi_polygon is (areas_of (simple_below d (multi_polygon ids areas))))
    (ids_of-each (λ id rings. plain_row d kind.Polygon id []) (ring_nodes (suc d)) ids areas
    (λ id x. refl) h)
    ∙ ap (λ ls. multi_polygon ids ls) (areas_of-areas d ids areas)
simple_from-below d _ h = refl

-- a simple shape's kind is not the collection
pub simple_kind : (s : Simple) → is_collection (kind_in s) ≡ false
simple_kind (point o) = refl
simple_kind _ = refl

mutual
  tree_back : (d : ℕ) (id : Option ℤ) (g : Tree) → IsTree g
      → tree_from (own_row id d g) (tree_below (suc d) g) (trees_from (tree_below (suc d) g)) ≡ g
  tree_back d id (simple q s) t = rw (simple_kind s) (ap (λ u. simple q u) (simple_from-below (suc d) s t.1))
  tree_back d id (collection q ids gs) t =
      ap (λ is. collection q is (trees_from (member_nodes (suc d) ids gs)))
      (ids_of-members (suc d) ids gs t.1) ∙ ap (λ hs. collection q ids hs)
      (trees_back (suc d) ids gs t.2)

  pub trees_back : (d : ℕ) (ids : Ids) (gs : Trees) → AreTrees gs → trees_from (member_nodes d ids gs) ≡ gs
  trees_back d ids end t = refl
  trees_back d ids (g ▷ gs) t = ap (λ h. h ▷ trees_from (member_nodes d (other_ids ids) gs))
      (tree_back d (first_id ids) g t.0) ∙ ap (λ hs. g ▷ hs) (trees_back d (other_ids ids) gs t.1)
