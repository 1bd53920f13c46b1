-- The code of a tree, by which trees are told apart and geometries compared.
use Rattle.std.specs.Prelude.{◌≡◌, ℤ, List, refl, Bool, true, false, ◌&&◌, nat_eq}
use Rattle.std.proofs.Common.{ap, sym, subst}
use Rattle.std.specs.Coded.{Coded, code_by, coded_ℤ, coded_list, coded_option, coded×}
use base.Stored.{Gv, gnil, gnum, gcons}
use Rattle.twkb_points.specs.Point.{Point}
use Rattle.twkb_tree.specs.Tree.{Ids, Simple, point, line, polygon, multi_point, multi_line, multi_polygon, Tree}
use Rattle.twkb_tree.specs.Tree.{simple, collection, Trees, end, ◌▷◌}
use Rattle.std.specs.Bool.{Decides, one_answer}
use Rattle.std.specs.Cmp.{IsPartialEquivalence, IsEquivalence, partial_equiv_from_equiv}
use Rattle.std.proofs.lemmas.Bool.{eqb-true, eq-eqb}

-- ==== The code of a tree, by which proofs tell two trees apart.

-- the code of points
abbrev pub coded_point : Coded Point
coded_point = code_by (ℤ × ℤ) (coded× coded_ℤ coded_ℤ) (λ p. (p.x, p.y)) (λ c. record { x = c.0; y = c.1 }) (λ _. refl)

-- the code of lists of points
abbrev pub coded_points : Coded (List Point)
coded_points = coded_list coded_point

-- the code of lists of lines
abbrev pub coded_lines : Coded (List (List Point))
coded_lines = coded_list coded_points

-- the code of lists of polygons
abbrev pub coded_areas : Coded (List (List (List Point)))
coded_areas = coded_list coded_lines

-- the code of ids
abbrev pub coded_ids : Coded Ids
coded_ids = coded_option (coded_list coded_ℤ)

-- the code of a simple shape
abbrev pub code_simple : Simple → Gv
code_simple (point o) = gcons (gnum 0) ((coded_option coded_point).code o)
code_simple (line ps) = gcons (gnum 1) (coded_points.code ps)
code_simple (polygon rings) = gcons (gnum 2) (coded_lines.code rings)
code_simple (multi_point ids ps) = gcons (gnum 3) (gcons (coded_points.code ps) (coded_ids.code ids))
code_simple (multi_line ids lines) = gcons (gnum 4) (gcons (coded_lines.code lines) (coded_ids.code ids))
code_simple (multi_polygon ids areas) = gcons (gnum 5) (gcons (coded_areas.code areas) (coded_ids.code ids))

-- the code of a tree
abbrev mutual
  pub code_tree : Tree → Gv
  code_tree (simple p s) = gcons (gnum 0) (gcons (coded_ℤ.code p) (code_simple s))
  code_tree (collection p ids gs) = gcons (gnum 1) (gcons (coded_ℤ.code p) (gcons (code_trees gs) (coded_ids.code ids)))

  pub code_trees : Trees → Gv
  code_trees end = gnil
  code_trees (g ▷ gs) = gcons (code_tree g) (code_trees gs)

-- the first part of a code
abbrev pub first : Gv → Gv
first gnil = gnil
first (gnum n) = gnil
first (gcons a b) = a

-- the second part of a code
abbrev pub rest : Gv → Gv
rest gnil = gnil
rest (gnum n) = gnil
rest (gcons a b) = b

-- simple shapes with the same code are equal
pub code_simple_inj : (x y : Simple) → code_simple x ≡ code_simple y → x ≡ y
code_simple_inj (point a) (point b) e = λ i. point ((coded_option coded_point).inj a b (ap rest e) i)
code_simple_inj (line a) (line b) e = λ i. line (coded_points.inj a b (ap rest e) i)
code_simple_inj (polygon a) (polygon b) e = λ i. polygon (coded_lines.inj a b (ap rest e) i)
code_simple_inj (multi_point is a) (multi_point js b) e = λ i.
    multi_point (coded_ids.inj is js (ap (λ g. rest (rest g)) e) i)
    (coded_points.inj a b (ap (λ g. first (rest g)) e) i)
code_simple_inj (multi_line is a) (multi_line js b) e = λ i.
    multi_line (coded_ids.inj is js (ap (λ g. rest (rest g)) e) i)
    (coded_lines.inj a b (ap (λ g. first (rest g)) e) i)
code_simple_inj (multi_polygon is a) (multi_polygon js b) e = λ i.
    multi_polygon (coded_ids.inj is js (ap (λ g. rest (rest g)) e) i)
    (coded_areas.inj a b (ap (λ g. first (rest g)) e) i)
code_simple_inj _ _ e = cc

-- trees with the same code are equal
mutual
  pub code_tree_inj : (x y : Tree) → code_tree x ≡ code_tree y → x ≡ y
  code_tree_inj (simple p s) (simple q t) e = λ i.
      simple (coded_ℤ.inj p q (ap (λ g. first (rest g)) e) i)
      (code_simple_inj s t (ap (λ g. rest (rest g)) e) i)
  code_tree_inj (collection p is gs) (collection q js hs) e =
      λ i. collection (coded_ℤ.inj p q (ap (λ g. first (rest g)) e) i)
      (coded_ids.inj is js (ap (λ g. rest (rest (rest g))) e) i)
      (code_trees_inj gs hs (ap (λ g. first (rest (rest g))) e) i)
  code_tree_inj _ _ e = cc

  pub code_trees_inj : (x y : Trees) → code_trees x ≡ code_trees y → x ≡ y
  code_trees_inj end end e = refl
  code_trees_inj (g ▷ gs) (h ▷ hs) e = λ i. code_tree_inj g h (ap first e) i ▷ code_trees_inj gs hs (ap rest e) i
  code_trees_inj _ _ e = cc

-- trees with their codes
abbrev pub coded_tree : Coded Tree
coded_tree = record { code = code_tree; inj = code_tree_inj }

-- ==== Equality of geometries: a test that computes, by their codes.

-- whether two codes are equal
abbrev pub code_eq : Gv → Gv → Bool
code_eq gnil gnil = true
code_eq (gnum m) (gnum n) = nat_eq m n
code_eq (gcons a b) (gcons c d) = code_eq a c && code_eq b d
code_eq _ _ = false

-- whether two trees are equal
abbrev pub tree_eq : Tree → Tree → Bool
tree_eq g h = code_eq (code_tree g) (code_tree h)

-- two tests hold if both together hold
and_parts : (s t : Bool) → (s && t) ≡ true → (s ≡ true) × (t ≡ true)
and_parts true t e = (refl, e)
and_parts false t e = cc

-- codes that pass the test are equal
same_codes : (g h : Gv) → code_eq g h ≡ true → g ≡ h
same_codes gnil gnil e = refl
same_codes (gnum m) (gnum n) e = λ i. gnum (eqb-true m n e i)
same_codes (gcons a b) (gcons c d) e =
    let parts = and_parts (code_eq a c) (code_eq b d) e in
    λ i. gcons (same_codes a c parts.0 i) (same_codes b d parts.1 i)
same_codes _ _ e = cc

-- each code equals itself by the test
own_code : (g : Gv) → code_eq g g ≡ true
own_code gnil = refl
own_code (gnum n) = eq-eqb n n refl
own_code (gcons a b) = λ i. own_code a i && own_code b i

-- the test holds exactly if the trees are equal
pub tree_eq_decides : (g h : Tree) → Decides (tree_eq g h) (g ≡ h)
tree_eq_decides g h = (
  λ e. code_tree_inj g h (same_codes (code_tree g) (code_tree h) e),
  λ e.
      subst (λ (t : Tree). tree_eq g t ≡ true) e (own_code (code_tree g)),
)

-- the test is an equivalence
pub tree_eq_equiv : IsEquivalence tree_eq
tree_eq_equiv = record {
  refl = λ g. own_code (code_tree g);
  symm = λ g h. one_answer (tree_eq g h) (tree_eq h g) (tree_eq_decides g h)
      (λ e. sym ((tree_eq_decides h g).0 e), λ e. (tree_eq_decides h g).1 (sym e));
  congr = λ g h k e. ap (λ (t : Tree). tree_eq t k) ((tree_eq_decides g h).0 e);
}

-- the test is an equivalence, in the form that `PartialEq` asks for
pub tree_eq_partial : IsPartialEquivalence tree_eq
tree_eq_partial = partial_equiv_from_equiv tree_eq_equiv
