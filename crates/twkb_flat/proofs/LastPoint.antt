-- The last row of a form, its kind and its open place, also after points were added to it.
use mathlib.Core.List.{reverse_aux}
use Rattle.std.proofs.Common.{◌≡◌, ℕ, zero, suc, ◌+◌, ◌<◌, ◌≤◌, ◌==◌, true, false, List, [], ◌∷◌, length, get_or}
use Rattle.std.proofs.Common.{Some, refl, sym, ap, ◌∙◌, subst, arith, eq-eqb, ◌-◌, Bool, ◌++◌, map, take, drop, None}
use Rattle.std.proofs.Common.{inl, inr, ◌^◌, set, rules, Fits, w32, Vec, append_assoc, append-nil}
use Rattle.std.specs.Prelude.{reverse, slice_get, ◌&&◌, ◌↔◌, IsTrue, is_none, nat_lt, nat_le}
use Rattle.std.proofs.lemmas.List.{length-map, length-append, length-drop, take_all, take-append-le, drop-append-le}
use Rattle.std.proofs.lemmas.List.{with_items_is}
use Rattle.std.proofs.lemmas.Bool.Decides.{nat_tests}
use Rattle.twkb_points.specs.Point.{AreInRange, Point}
use Rattle.twkb_tree.specs.declared.open_rows.OpenRow.{OpenRow}
use Rattle.twkb_tree.specs.Rows.{Row, row_points, AreValidRowsOfOne, Row as TableRow, rows}
use Rattle.twkb_tree.specs.Admits.{last_at, first_below, Continues}
use Rattle.twkb_tree.specs.Open.{ids_by, IsOpenAt, AreOpen, open_count, row_of, child_of, open_parent, count_at}
use Rattle.twkb_tree.specs.Open.{open_refusal, is_next, open_continues, row_checks, row_place_at}
use Rattle.twkb_tree.specs.declared.row_place.RowPlace.{RowPlace}
use Rattle.twkb_tree.specs.Limits.{Allowance, largest_limits, IsValid}
use Rattle.twkb_tree.specs.Refusal.{checks_under, first_failed, continues}
use Rattle.twkb_tree.proofs.OpenLaws.{below_stands, stepless, continues_is, continues_true, continues_open, open_rows}
use Rattle.twkb_tree.proofs.OpenLaws.{open_none, open_at}
use Rattle.twkb_tree.proofs.RowSteps.{last_at-other, other_depth}
use Rattle.twkb_tree.proofs.RowForest.{are_in_range-true, test_within}
use Rattle.twkb_tree.proofs.LimitLaws.{of_one, one_valid_front, continues_row}
use Rattle.twkb_tree.proofs.RowLaws.{length-row_points, admitted_rows, as_list, row_points-append, row_points-with}
use Rattle.twkb_flat.specs.Rows.{OpenPlace, depth_of, depths, row_with, IsNext, Linked, IsNode}
use Rattle.twkb_tree.specs.RowGrowth.{EndsInLine, point_added, with_point, points_added}
use Rattle.twkb_flat.specs.declared.kept_nodes.KeptNode.{KeptNode}
use Rattle.twkb_flat.specs.KeptNodes.{listed, placed_of, IsLineKind, LastIsLine, IsFlat, Laid, next_of, placed_depth}
use Rattle.twkb_flat.specs.KeptNodes.{depths_in, links_in, longer, last_longer, LastHasRoom}
use Rattle.std.proofs.lemmas.Bool.{cases_lt}
use Rattle.std.specs.Vec.{with_items}
use Rattle.twkb_tree.specs.declared.limits.TheConstants.{NODES_CAP, POINTS_CAP}
use Rattle.twkb_tree.specs.Tree.{Tree, flat}
use Rattle.twkb_tree.proofs.TreeLemmas.{length-rows_with}
use Rattle.twkb_tree.proofs.PointMore.{line_more, point_last}
use Rattle.twkb_flat.specs.declared.node.Row.{Row as NodeRow}
use Rattle.twkb_flat.specs.declared.node.Node.{Node}
use Rattle.twkb_flat.specs.declared.kept_nodes.PlacedRow.{PlacedRow}
use Rattle.twkb_flat.proofs.LinkLemmas.{flat_points, laid_within}

-- ==== An open place among the rows, and what the test of a row sees of the row there.

-- each row is below this depth
abbrev AreBelow : ℕ → List Row → Type 0
AreBelow d rs = (j : ℕ) → j < length rs → d < get_or (depths rs) j 0

-- the rows after the first are below the depth
below_rest : (d : ℕ) (r : Row) (rest : List Row) → AreBelow d (r ∷ rest) → AreBelow d rest
below_rest d r rest h = λ j lt. h (suc j) (omega arith)

-- rows below a depth leave the last row at that depth unchanged
last_stays : (d : ℕ) (rest before : List Row) → AreBelow d rest → last_at d (reverse_aux rest before) ≡ last_at d before
last_stays d [] before h = refl
last_stays d (r ∷ rest) before h = last_stays d rest (r ∷ before) (below_rest d r rest h)
    ∙ last_at-other d r before (h 0 (omega arith))

-- rows below a depth leave its first child unchanged
first_stays : (d : ℕ) (rest before : List Row) (f : Row) → AreBelow d rest
    → first_below d before ≡ Some f → first_below d (reverse_aux rest before) ≡ Some f
first_stays d [] before f h is = is
first_stays d (r ∷ rest) before f h is =
    let off : (r.depth == d) ≡ false = other_depth r.depth d (h 0 (omega arith)) in
    first_stays d rest (r ∷ before) f (below_rest d r rest h) (rw (off, is) refl)

-- the first child is the next row
first_behind : (d : ℕ) (r : Row) (rest before : List Row) → r.depth ≡ d → AreBelow d rest
    → (0 < length rest → get_or (depths rest) 0 0 ≤ d + 1)
    → first_below d (reverse_aux rest (r ∷ before)) ≡ slice_get rest 0
first_behind d r [] before e h step = let on : (r.depth == d) ≡ true = eq-eqb r.depth d e in rw on refl
first_behind d r (f ∷ rest) before e h step =
    let on : (r.depth == d) ≡ true = eq-eqb r.depth d e in
    let deeper = h 0 (omega arith) in
    let shallow = step (omega arith) in
    let off : (f.depth == d) ≡ false = other_depth f.depth d deeper in
    let child : (f.depth == suc d) ≡ true = eq-eqb f.depth (suc d) (omega arith) in
    first_stays d rest (f ∷ r ∷ before) f (below_rest d f rest h) (rw (on, off, child) refl)

-- the open row at an open place
kept_there : (p d : ℕ) (rows before : List Row) (r : Row) (o : OpenRow)
    → OpenPlace (depths rows) d p → (suc p < length rows → get_or (depths rows) (suc p) 0 ≤ d + 1)
    → slice_get rows p ≡ Some r → o.kind ≡ r.kind → o.child_ids ≡ ids_by (slice_get rows (suc p))
    → IsOpenAt d (reverse_aux rows before) o
kept_there p d [] before r o at step here kind ids = absurd (omega (arith, at.within))
kept_there zero d (s ∷ rest) before r o at step here kind ids =
    let total : length (depths rest) ≡ length rest = length-map rest depth_of in
    let below : AreBelow d rest = λ j lt. (let deeper = at.is_open (suc j) (omega arith)
    (omega (arith, total)) in omega (arith, at.depth, deeper)) in
    let same : s ≡ r = cc here in
    let stands : last_at d (s ∷ before) ≡ Some s = let on : (s.depth == d) ≡ true = eq-eqb s.depth d
    at.depth in rw on refl in (
      s,
      last_stays d rest (s ∷ before) below ∙ stands,
      kind ∙ sym (ap (λ (q : Row). q.kind) same),
      ids ∙ ap ids_by (sym (first_behind d s rest before at.depth below
          (λ some. step (omega arith)))),
    )
kept_there (suc p) d (s ∷ rest) before r o at step here kind ids =
    let below : OpenPlace (depths rest) d p = record {
      within = omega (arith, at.within);
      depth = at.depth;
      is_open = λ j after within. at.is_open (suc j) (omega arith)
          (omega arith);
    } in
    kept_there p d rest (s ∷ before) r o below (λ more. step (omega arith)) here kind ids

-- the open row at an open place, for all rows
pub open_there : (p d : ℕ) (rows : List Row) (r : Row) (o : OpenRow) → OpenPlace (depths rows) d p
    → ((i : ℕ) → i + 1 < length (depths rows) → get_or (depths rows) (i + 1) 0 ≤ get_or
    (depths rows) i 0 + 1)
    → slice_get rows p ≡ Some r → o.kind ≡ r.kind → o.child_ids ≡ ids_by (slice_get rows (p + 1))
    → IsOpenAt d (reverse rows) o
open_there p d rows r o at steps here kind ids =
    let next : p + 1 ≡ suc p = omega arith in
    kept_there p d rows [] r o at
    (λ more. subst (λ (n : ℕ). get_or (depths rows) n 0 ≤ d + 1) next
    (let step = steps p (omega (arith, more, length-map rows depth_of)) in
    omega (arith, step, at.depth)))
    here kind (ids ∙ ap (λ (n : ℕ). ids_by (slice_get rows n)) next)

-- ==== The test of a row at its place is the test by the open rows.

-- a conjunction with a true test is the other test
and_true : (a b : Bool) → b ≡ true → (a && b) ≡ a
and_true true b e = e
and_true false b e = refl

-- a conjunction with a false test is false
and_false : (a b : Bool) → b ≡ false → (a && b) ≡ false
and_false true b e = e
and_false false b e = refl

-- a depth that is at most n passes
near : (m n : ℕ) → m ≤ n → nat_le m n ≡ true
near m n le = test_within m n le

-- a depth above n fails
far : (m n : ℕ) → n < m → nat_le m n ≡ false
far m n lt = grind (arith, nat_tests)

-- the test at the row's place is the test by the open rows
pub continues_there : (l : Allowance) (os : List OpenRow) (nodes points : ℕ) (s : RowPlace)
    (r : Row) → AreInRange r.points → is_next os r ≡ true
    → (r.depth ≤ length os) × (s ≡ row_place_at r.depth os nodes points)
    → is_none (first_failed (row_checks true l s r)) ≡ open_continues l os nodes points r
continues_there l os nodes points s r in_range next stands =
    let there = row_place_at r.depth os nodes points in
    ap (λ t. is_none (first_failed (row_checks true l t r))) stands.1
    ∙ ap (λ b. is_none (first_failed (row_checks b l there r)))
    (sym (are_in_range-true r.points in_range))
    ∙ ap (λ b. is_none (first_failed (checks_under l b (row_of there.parent) (child_of there.parent)
    there.nodes there.points r))) (sym (near r.depth (length os) stands.0))
    ∙ sym (and_true (is_none (open_refusal l os nodes points r)) (is_next os r) next)

-- a row that is too deep does not continue the geometry
pub too_deep : (l : Allowance) (os : List OpenRow) (nodes points : ℕ) (r : Row)
    → length os < r.depth → false ≡ open_continues l os nodes points r
too_deep l os nodes points r lt =
    let deep = stepless l (nat_le r.depth (length os)) (row_of (open_parent r.depth os))
    (child_of (open_parent r.depth os)) (count_at r.depth nodes) (count_at r.depth points) r
    (far r.depth (length os) lt) in
    sym (ap (λ o. is_none o && is_next os r) deep)

-- a root that is not first does not continue it, nor does a first row that is not a root
pub misplaced : (l : Allowance) (os : List OpenRow) (nodes points : ℕ) (r : Row)
    → is_next os r ≡ false → false ≡ open_continues l os nodes points r
misplaced l os nodes points r out = sym (and_false (is_none (open_refusal l os nodes points r)) (is_next os r) out)

-- if no row is open, the next row is at depth 0
pub first_next : (d : ℕ) (os : List OpenRow) (r : Row) → r.depth ≡ d → length os ≡ 0 → (d == 0) ≡ is_next os r
first_next d [] r e none = ap (λ n. n == 0) (sym e)
first_next d (o ∷ os) r e none = absurd (omega arith)

-- if a row is open, the next row is below depth 0
pub later_next : (d : ℕ) (os : List OpenRow) (r : Row) → r.depth ≡ d → (length os ≡ 0 → ⊥) → nat_lt 0 d ≡ is_next os r
later_next d [] r e some = absurd (some refl)
later_next d (o ∷ os) r e some = ap (nat_lt 0) (sym e)

-- ---- the place of a row

-- two open rows of the last row at one depth are equal
open_alike : (d : ℕ) (before : List Row) (o p : OpenRow) → IsOpenAt d before o → IsOpenAt d before p → o ≡ p
open_alike d before o p h k =
    let kind : o.kind ≡ p.kind = cc (h.1, h.2, k.1, k.2) in
    let ids : o.child_ids ≡ p.child_ids = h.3 ∙ sym k.3 in
    ap (λ x. record { kind = x; child_ids = o.child_ids }) kind ∙ ap (λ x. record { kind = p.kind; child_ids = x }) ids

-- the open row of the last row at a depth is the one at that depth in the list
pub open_is : (d : ℕ) (before : List Row) (os : List OpenRow) (blank o : OpenRow)
    → AreOpen before os → d < length os → IsOpenAt d before o → get_or os d blank ≡ o
open_is d before os blank o a lt h = open_alike d before (get_or os d blank) o (open_at d before os blank a lt) h

-- the place of a row that is not a root, with the counts of rows and points
pub other_stands : (d n m nodes points : ℕ) (before : List Row) (os : List OpenRow) (o : OpenRow)
    → (d ≡ 0 → ⊥) → AreOpen before os → d ≤ open_count before → IsOpenAt (d - 1) before o
    → n ≡ nodes → m ≡ points
    → record { depth = d; parent = Some o; nodes = n; points = m } ≡ row_place_at d os nodes points
other_stands d n m nodes points before os o some a le h n_is m_is =
    let within : d - 1 < length os = omega (arith, some, a.all, le) in
    rw (n_is, m_is) (
    ap (λ (p : OpenRow). record { depth = d; parent = Some p; nodes = nodes; points = points })
    (sym (open_is (d - 1) before os o o a within h))
    ∙ (below_stands d os nodes points o some within).1)

-- ---- the rows of a form

-- rows of one geometry have open rows
pub rows_open : (rows : List Row) → AreValidRowsOfOne largest_limits rows → (os : List OpenRow)
    × AreOpen (reverse rows) os
rows_open [] valid = ([], open_none)
rows_open (r ∷ rest) valid = open_rows (reverse (r ∷ rest))
    (admitted_rows (r ∷ rest) (as_list r rest (of_one largest_limits (r ∷ rest) valid)))

-- the test by the open rows is the test by the rows
pub kept_continues : (rows : List Row) (os : List OpenRow) (nodes points : ℕ) (r : Row)
    → AreValidRowsOfOne largest_limits rows → AreOpen (reverse rows) os → nodes ≡ length rows
    → points ≡ length (row_points rows)
    → open_continues largest_limits os nodes points r ≡ continues largest_limits rows r
kept_continues rows os nodes points r valid now_open all own =
    ap (λ n. open_continues largest_limits os n points r) all
    ∙ ap (λ n. open_continues largest_limits os (length rows) n r) (own ∙ length-row_points rows)
    ∙ continues_open largest_limits rows os r (of_one largest_limits rows valid) now_open

-- a test that equals the test by the rows decides about the row
pub decides : (rows : List Row) (r : Row) (b : Bool) → b ≡ continues largest_limits rows r
    → IsTrue b ↔ Continues largest_limits rows r
decides rows r b same = (
  λ yes. continues_is largest_limits rows r (sym same ∙ yes),
  λ h. same
      ∙ continues_true largest_limits rows r h,
)

-- ==== The kinds of the last kept node and of the last row.

pub last_of : (es : List KeptNode) (i : ℕ) (d : KeptNode) → i + 1 ≡ length es → LastIsLine es
    → IsLineKind (get_or es i d).placed.row.kind
last_of (e ∷ []) zero d at h = h
last_of (e ∷ f ∷ es) (suc i) d at h = last_of (f ∷ es) i d (omega arith) h
last_of _ _ d at h = absurd (omega arith)

pub last_is : (es : List KeptNode) (i : ℕ) (d : KeptNode) → i + 1 ≡ length es
    → IsLineKind (get_or es i d).placed.row.kind → LastIsLine es
last_is (e ∷ []) zero d at h = h
last_is (e ∷ f ∷ es) (suc i) d at h = last_is (f ∷ es) i d (omega arith) h
last_is _ _ d at h = absurd (omega arith)

-- the rows end in a line if the last kept node is a line's
pub rows_end : (es : List KeptNode) (ps : List Point) → LastIsLine es → EndsInLine (listed (map placed_of es) ps)
rows_end [] ps h = absurd h
rows_end (e ∷ []) ps h = record {
  front = [];
  last = row_with e.placed.row (take e.placed.points ps);
  line = h;
  whole = refl;
}
rows_end (e ∷ f ∷ es) ps h =
    let more = rows_end (f ∷ es) (drop e.placed.points ps) h in
    let first = row_with e.placed.row (take e.placed.points ps) in
    record {
      front = first ∷ more.front;
      last = more.last;
      line = more.line;
      whole = ap (λ (rs : List TableRow). first ∷ rs) more.whole;
    }

-- rows that end in one are not none
pub some_behind : (front : List TableRow) (last : TableRow) → [] ≡ front ++ last ∷ [] → ⊥
some_behind front last t = absurd
    (omega (arith, ap (λ (rs : List TableRow). length rs) t, length-append front (last ∷ [])))

abbrev head_or : TableRow → List TableRow → TableRow
head_or r [] = r
head_or r (s ∷ rs) = s

abbrev tail_of : List TableRow → List TableRow
tail_of [] = []
tail_of (s ∷ rs) = rs

-- the last kept node is a line's if the rows end in a line
pub ends_rows : (es : List KeptNode) (ps : List Point) (front : List TableRow) (last : TableRow)
    → listed (map placed_of es) ps ≡ front ++ last ∷ [] → IsLineKind last.kind → LastIsLine es
ends_rows [] ps front last whole line = absurd (some_behind front last whole)
ends_rows (e ∷ []) ps [] last whole line = subst (λ (r : TableRow). IsLineKind r.kind)
    (sym (ap (head_or last) whole)) line
ends_rows (e ∷ []) ps (r ∷ front) last whole line = absurd (some_behind front last (ap tail_of whole))
ends_rows (e ∷ f ∷ es) ps [] last whole line = absurd
    (omega (arith, ap (λ (rs : List TableRow). length rs) (ap tail_of whole)))
ends_rows (e ∷ f ∷ es) ps (r ∷ front) last whole line = ends_rows (f ∷ es) (drop e.placed.points ps)
    front last (ap tail_of whole) line

true_false : true ≡ false → ⊥
true_false t = absurd (grind (arith, nat_tests))

-- the test of the last kept node is a test of the last row
pub both : (b : Bool) (count most : ℕ) (es : List KeptNode) (ps : List Point) (rows : List TableRow)
    → listed (map placed_of es) ps ≡ rows → count ≡ length (row_points rows)
    → (IsTrue b ↔ LastIsLine es) → b ≡ true
    → IsTrue (nat_lt count most) ↔ (EndsInLine rows × (length (row_points rows) < most))
both b count most es ps rows view total (forth, back) t = (
  (λ u. (
    subst EndsInLine view (rows_end es ps (forth t)),
    let few : count < most = grind
        (arith, nat_tests) in omega (arith, few, total),
  )),
  (λ h. let few : count < most = omega (arith, h.1, total) in grind (arith, nat_tests)),
)

pub neither : (b : Bool) (most : ℕ) (es : List KeptNode) (ps : List Point) (rows : List TableRow)
    → listed (map placed_of es) ps ≡ rows → (IsTrue b ↔ LastIsLine es) → b ≡ false
    → IsTrue false ↔ (EndsInLine rows × (length (row_points rows) < most))
neither b most es ps rows view (forth, back) f = (
  (λ t. absurd (true_false (sym t))),
  (λ h. sym f ∙ back (ends_rows es ps h.0.front h.0.last (view ∙ h.0.whole) h.0.line)),
)

-- ==== What is true of the rows of a flat form, and what determines its nodes.

-- ---- caps

-- there are at most as many rows as allowed
pub few_nodes : (rs : List TableRow) → AreValidRowsOfOne largest_limits rs → length rs ≤ NODES_CAP
few_nodes [] v = omega arith
few_nodes (r ∷ rs) v =
    let same : length (rows 0 v.0) ≡ length (r ∷ rs) = ap (λ xs. length xs) v.2 in
    let kept = v.1.nodes_kept in
    omega (arith, same, kept, length-rows_with None 0 v.0)

-- there are at most as many points as allowed
pub few_points : (rs : List TableRow) → AreValidRowsOfOne largest_limits rs → length (row_points rs) ≤ POINTS_CAP
few_points [] v = omega arith
few_points (r ∷ rs) v =
    let same : length (flat v.0) ≡ length (row_points (r ∷ rs)) = ap (λ xs. length xs)
    (sym (row_points-with None 0 v.0)) ∙ ap (λ xs. length (row_points xs)) v.2 in
    let kept = v.1.points_kept in
    omega (arith, same, kept)

-- ---- every geometry

-- the rows of a valid geometry are the rows of one valid geometry
rows_of_valid : (g : Tree) (rs : List TableRow) → IsValid largest_limits g → rows 0 g ≡ rs
    → AreValidRowsOfOne largest_limits rs
rows_of_valid g [] v e = tt
rows_of_valid g (r ∷ rs) v e = (g, v, e)

-- each row of a geometry comes next after those before it
pub each_goes_on : (g : Tree) (front : List TableRow) (r : TableRow) (more : List TableRow)
    → IsValid largest_limits g → rows 0 g ≡ front ++ r ∷ more → Continues largest_limits front r
each_goes_on g front r more v e =
    let all = rows_of_valid g ((front ++ r ∷ []) ++ more) v (e ∙ sym (append_assoc front (r ∷ []) more)) in
    continues_row largest_limits front r (one_valid_front largest_limits (front ++ r ∷ []) more all)

-- ---- one node

-- a subtree has one place after it
one_next : (ds : List ℕ) (i m n : ℕ) → IsNext ds i m → IsNext ds i n → m ≡ n
one_next ds i m n a b =
    elim (cases_lt m n) [
      | inl before ↦
          (let within = b.within in
          let deeper = b.deeper m a.after before in
          let ends = a.ends (omega arith) in
          absurd (omega arith))
      | inr other ↦ elim (cases_lt n m) [
        | inl before ↦
            (let within = a.within in
            let deeper = a.deeper n b.after before in
            let ends = b.ends (omega arith) in
            absurd (omega arith))
        | inr same ↦ omega arith
      ]
    ]

-- equal lists have equal first rows and equal rests
heads : (x y : TableRow) (xs ys : List TableRow) → x ∷ xs ≡ y ∷ ys → x ≡ y
heads x y xs ys e = cc e

-- rows with points are equal only if the rows and the points are
row_is : (a b : NodeRow) (ps qs : List Point) → row_with a ps ≡ row_with b qs → a ≡ b
row_is a b ps qs e =
    let depth : a.depth ≡ b.depth = ap (λ (r : TableRow). r.depth) e in
    let kind : a.kind ≡ b.kind = ap (λ (r : TableRow). r.kind) e in
    let id : a.id ≡ b.id = ap (λ (r : TableRow). r.id) e in
    let precision : a.precision ≡ b.precision = ap (λ (r : TableRow). r.precision) e in
    rw (sym depth, sym kind, sym id, sym precision) refl

-- the node at a place is determined
pub same_node : (rs : List TableRow) (i : ℕ) (m n : Node) → IsNode rs i m → IsNode rs i n → m ≡ n
same_node rs i m n a b =
    let here = heads (row_with m.row a.own) (row_with n.row b.own) a.rest b.rest (sym a.here ∙ b.here) in
    let row = row_is m.row n.row a.own b.own here in
    let own : a.own ≡ b.own = ap (λ (r : TableRow). r.points) here in
    let points : m.points ≡ n.points = sym a.count ∙ ap (λ xs. length xs) own ∙ b.count in
    let first : m.first.0 ≡ n.first.0 = sym a.first ∙ b.first in
    let next = one_next (depths rs) i m.next.0 n.next.0 a.next b.next in
    rw (row, next, first, points) refl

-- ==== Points appended to the last row, and counted in the last kept node.

-- ---- the last kept node

last_room : (n : ℕ) (es : List KeptNode) (i : ℕ) (d : KeptNode) → i + 1 ≡ length es
    → LastHasRoom n es → (get_or es i d).placed.points + n < 2 ^ 32
last_room n (e ∷ []) zero d at h = h
last_room n (e ∷ f ∷ es) (suc i) d at h = last_room n (f ∷ es) i d (omega arith) h
last_room n _ _ d at h = absurd (omega arith)

pub last_fits : (n : ℕ) (es : List KeptNode) (i : ℕ) (d : KeptNode) → i + 1 ≡ length es
    → LastHasRoom n es → Fits w32 ((get_or es i d).placed.points + n)
last_fits n es i d at h = let few : (get_or es i d).placed.points + n < 2 ^ 32 = last_room n es i d
    at h in search rules

-- the kept node with this many more points
abbrev pub node_longer : ℕ → KeptNode → KeptNode
node_longer n e = record { placed = longer n e.placed; next = e.next }

pub longer_placed : (n : ℕ) (es : List KeptNode) (i : ℕ) (d : KeptNode) → i + 1 ≡ length es
    → map placed_of (set es i (node_longer n (get_or es i d))) ≡ last_longer n (map placed_of es)
longer_placed n (e ∷ []) zero d at = refl
longer_placed n (e ∷ f ∷ es) (suc i) d at = ap (λ (ss : List PlacedRow). e.placed ∷ ss)
    (longer_placed n (f ∷ es) i d (omega arith))
longer_placed n _ _ d at = absurd (omega arith)

pub same_links : (n : ℕ) (es : List KeptNode) (i : ℕ) (d : KeptNode)
    → links_in (set es i (node_longer n (get_or es i d))) ≡ links_in es
same_links n (e ∷ es) (suc i) d = ap (λ (ns : List ℕ). e.next.0 ∷ ns) (same_links n es i d)
same_links n _ _ d = refl

-- ---- placed rows and rows

longer_laid : (n at total : ℕ) (ss : List PlacedRow) → 0 < length ss → Laid at ss total
    → Laid at (last_longer n ss) (total + n)
longer_laid n at total [] some laid = absurd (omega arith)
longer_laid n at total (s ∷ []) some (first, last) = (first, omega (arith, last))
longer_laid n at total (s ∷ t ∷ ss) some (first, rest) =
    (first, longer_laid n (at + s.points) total (t ∷ ss) (omega arith) rest)

longer_depths : (n : ℕ) (ss : List PlacedRow)
    → map placed_depth (last_longer n ss) ≡ map placed_depth ss
longer_depths n (s ∷ t ∷ ss) = ap (λ (ds : List ℕ). placed_depth s ∷ ds) (longer_depths n (t ∷ ss))
longer_depths n _ = refl

-- points added to the only row are its last points
added_alone : (row : NodeRow) (own more : List Point)
    → points_added more (row_with row own ∷ []) ≡ row_with row (own ++ more) ∷ []
added_alone row own [] = ap (λ (ps : List Point). row_with row ps ∷ []) (sym (append-nil own))
added_alone row own (p ∷ more) = added_alone row (own ++ p ∷ []) more
    ∙ ap (λ (ps : List Point). row_with row ps ∷ []) (append_assoc own (p ∷ []) more)

-- points added to the last row leave a row before it as it is
added_below : (x y : TableRow) (rs : List TableRow) (more : List Point)
    → points_added more (x ∷ y ∷ rs) ≡ x ∷ points_added more (y ∷ rs)
added_below x y rs [] = refl
added_below x y [] (p ∷ more) = added_below x (with_point y p) [] more
added_below x y (z ∷ rs) (p ∷ more) = added_below x y (point_added p (z ∷ rs)) more

longer_listed : (at : ℕ) (ss : List PlacedRow) (ps more : List Point) → 0 < length ss
    → Laid at ss (at + length ps)
    → listed (last_longer (length more) ss) (ps ++ more) ≡ points_added more (listed ss ps)
longer_listed at [] ps more some laid = absurd (omega arith)
longer_listed at (s ∷ []) ps more some (first, last) =
    let now : take (s.points + length more) (ps ++ more) ≡ ps ++ more = take_all
    (s.points + length more)
    (ps ++ more) (omega (arith, last, length-append ps more)) in
    let before : take s.points ps ≡ ps = take_all s.points ps (omega (arith, last)) in
    ap (λ (own : List Point). row_with s.row own ∷ [])
    (now ∙ ap (λ (own : List Point). own ++ more) (sym before))
    ∙ sym (added_alone s.row (take s.points ps) more)
longer_listed at (s ∷ t ∷ ss) ps more some (first, rest) =
    let within = laid_within (at + s.points) (at + length ps) (t ∷ ss) rest in
    let fits : s.points ≤ length ps = omega arith in
    let total : at + length ps ≡ (at + s.points) + length (drop s.points ps) = omega (arith, length-drop s.points ps) in
    let left = drop s.points ps in
    rw (take-append-le s.points ps more fits, drop-append-le s.points ps more fits)
    (ap (λ (rs : List TableRow). row_with s.row (take s.points ps) ∷ rs)
    (longer_listed (at + s.points) (t ∷ ss) left more (omega arith)
    (subst (λ (k : ℕ). Laid (at + s.points) (t ∷ ss) k) total rest)))
    ∙ sym (added_below (row_with s.row (take s.points ps)) (row_with t.row (take t.points left))
    (listed ss (drop t.points left)) more)

-- the last kept node has few points if all kept nodes together have few
laid_room : (n at total : ℕ) (es : List KeptNode) → Laid at (map placed_of es) total
    → total + n < 2 ^ 32 → LastHasRoom n es
laid_room n at total [] laid few = tt
laid_room n at total (e ∷ []) (first, last) few = omega (arith, last)
laid_room n at total (e ∷ f ∷ es) (first, rest) few = laid_room n (at + e.placed.points) total
    (f ∷ es) rest few

-- ---- the form

-- kept nodes and points stand for these rows, the last of which is that of a linestring or a ring
pub record StandFor (rows : List TableRow) (es : List KeptNode) (ps : List Point) : Type 0 where
  pub flat : IsFlat es ps
  pub view : listed (map placed_of es) ps ≡ rows
  pub line : EndsInLine rows

-- there is a placed row
some_placed : (ss : List PlacedRow) (ps : List Point) (rows : List TableRow)
    → listed ss ps ≡ rows → EndsInLine rows → 0 < length ss
some_placed [] ps rows view e = absurd (some_behind e.front e.last (view ∙ e.whole))
some_placed (s ∷ ss) ps rows view e = omega arith

-- the rows have the points
rows_have : (rows : List TableRow) (es : List KeptNode) (ps : List Point) → StandFor rows es ps
    → length (row_points rows) ≡ length ps
rows_have rows es ps s = ap (λ (rs : List TableRow). length (row_points rs)) (sym s.view)
    ∙ ap (λ (qs : List Point). length qs) (flat_points (map placed_of es) ps s.flat.laid)

-- there is a last kept node, and it can count this many more points
pub can_count : (n : ℕ) (rows : List TableRow) (es was : List KeptNode) (ps : List Point)
    → StandFor rows es ps → length (row_points rows) + n ≤ POINTS_CAP → was ≡ es → LastHasRoom n was
can_count n rows es was ps s room is = subst (LastHasRoom n) (sym is) (laid_room n 0 (length ps) es
    s.flat.laid (omega (arith, room, rows_have rows es ps s)))

-- the rows end in a line, as before
still_line : (more : List Point) (rows : List TableRow) → EndsInLine rows
    → EndsInLine (points_added more rows)
still_line [] rows e = e
still_line (p ∷ more) rows e = still_line more (point_added p rows) (record {
  front = e.front;
  last = with_point e.last p;
  line = e.line;
  whole = ap (point_added p) e.whole ∙ point_last p e.front e.last;
})

-- the points of the last row are counted with the others
last_counted : (front : List TableRow) (r : TableRow)
    → length (row_points (front ++ r ∷ [])) ≡ length (row_points front) + length r.points
last_counted front r = omega (
  arith,
  ap (λ (ps : List Point). length ps) (row_points-append front (r ∷ [])),
  length-append (row_points front) (row_points (r ∷ [])),
  length-append r.points [],
)

-- there is one more point in the rows
one_counted : (p : Point) (rows : List TableRow) → EndsInLine rows
    → length (row_points (point_added p rows)) ≡ length (row_points rows) + 1
one_counted p rows e = omega (
  arith,
  ap (λ (rs : List TableRow). length (row_points rs))
      (ap (point_added p) e.whole ∙ point_last p e.front e.last),
  ap (λ (rs : List TableRow). length (row_points rs)) e.whole,
  last_counted e.front (with_point e.last p),
  last_counted e.front e.last,
  length-append e.last.points (p ∷ []),
)

-- the rows with more points are valid if there is room
added_valid : (more : List Point) (rows : List TableRow) → EndsInLine rows
    → length (row_points rows) + length more ≤ POINTS_CAP → AreInRange more
    → AreValidRowsOfOne largest_limits rows
    → AreValidRowsOfOne largest_limits (points_added more rows)
added_valid [] rows e room within valid = valid
added_valid (p ∷ more) rows e room within valid =
    added_valid more (point_added p rows) (still_line (p ∷ []) rows e)
    (omega (arith, room, one_counted p rows e)) within.1
    (line_more largest_limits rows p e within.0 (omega (arith, room)) valid)

-- Points are appended, and counted in the last kept node.
points_more : (more : List Point) (rows : List TableRow) (es after : List KeptNode)
    (ps all : List Point)
    → StandFor rows es ps → length (row_points rows) + length more ≤ POINTS_CAP → AreInRange more
    → map placed_of after ≡ last_longer (length more) (map placed_of es)
    → links_in after ≡ links_in es → all ≡ ps ++ more → StandFor (points_added more rows) after all
points_more more rows es after ps all s room within placed_rows links appended =
    let n = length more in
    let some = some_placed (map placed_of es) ps rows s.view s.line in
    let now : listed (map placed_of after) (ps ++ more) ≡ points_added more rows =
    ap (λ (ss : List PlacedRow). listed ss (ps ++ more)) placed_rows
    ∙ (longer_listed 0 (map placed_of es) ps more some
    (subst (λ (k : ℕ). Laid 0 (map placed_of es) k) (omega arith) s.flat.laid)
    ∙ ap (points_added more) s.view) in
    let depths : depths_in after ≡ depths_in es = ap (map placed_depth) placed_rows
    ∙ longer_depths n (map placed_of es) in
    let total : length after ≡ length es = sym (length-map after next_of)
    ∙ (ap (λ (ns : List ℕ). length ns) links ∙ length-map es next_of) in
    subst (StandFor (points_added more rows) after) (sym appended) (record {
      flat = record {
        laid = subst (λ (ss : List PlacedRow). Laid 0 ss (length (ps ++ more))) (sym placed_rows)
            (subst (λ (k : ℕ). Laid 0 (last_longer n (map placed_of es)) k)
            (sym (length-append ps more))
            (longer_laid n 0 (length ps) (map placed_of es) some s.flat.laid));
        linked = subst (λ (ds : List ℕ). Linked ds (links_in after)) (sym depths)
            (subst (λ (ls : List ℕ). Linked (depths_in es) ls) (sym links) s.flat.linked);
        valid = subst (AreValidRowsOfOne largest_limits) (sym now)
            (added_valid more rows s.line room within
            (subst (AreValidRowsOfOne largest_limits) s.view s.flat.valid));
        nodes = omega (arith, s.flat.nodes, total);
        most = omega (arith, room, rows_have rows es ps s, length-append ps more);
      };
      view = now;
      line = still_line more rows s.line;
    })

-- Points are appended, and counted in the last kept node of a vector.
pub vec_more : {Z : Type 0} (more : List Point) (rows : List TableRow) (v : Vec KeptNode Z)
    (was after : List KeptNode) (ps all : List Point) → StandFor rows v.items ps
    → length (row_points rows) + length more ≤ POINTS_CAP → AreInRange more → was ≡ v.items
    → map placed_of after ≡ last_longer (length more) (map placed_of was)
    → links_in after ≡ links_in was → all ≡ ps ++ more
    → StandFor (points_added more rows) (with_items v after).items all
vec_more more rows v was after ps all s room within is placed_rows links appended =
    let same : length after ≡ v.len = sym (length-map after next_of)
    ∙ (ap (λ (ns : List ℕ). length ns) links ∙ (length-map was next_of
    ∙ (ap (λ (es : List KeptNode). length es) is ∙ sym v.ok.0))) in
    subst (λ (es : List KeptNode). StandFor (points_added more rows) es all)
    (sym (with_items_is v after same))
    (points_more more rows v.items after ps all s room within
    (placed_rows ∙ ap (λ (es : List KeptNode). last_longer (length more) (map placed_of es)) is)
    (links ∙ ap links_in is) appended)

-- ==== A kept node gets its link.

-- setting a link changes no placed row
pub same_placed : (es : List KeptNode) (i next : ℕ) (d : KeptNode)
    → map placed_of (set es i (record { placed = (get_or es i d).placed; next = record { 0 = next } }))
    ≡ map placed_of es
same_placed (e ∷ es) (suc i) next d = ap (λ (ss : List PlacedRow). e.placed ∷ ss) (same_placed es i next d)
same_placed _ _ next d = refl
