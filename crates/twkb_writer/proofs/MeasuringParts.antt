-- The pass over rows, from the last to the first, and the totals of a simple geometry.
use lib.ListN.{replicate, set}
use mathlib.Core.List.{reverse_aux}
use Rattle.std.proofs.Common.{◌+◌, ◌*◌, ◌≤◌, arith, ◌≡◌, ℕ, suc, ◌<◌, List, [], ◌∷◌, ◌++◌, length, true, false, refl}
use Rattle.std.proofs.Common.{◌∙◌, ap, Option, None, Some, inl, inr, length-append, ◌≢◌, zero, drop, take, get_or}
use Rattle.std.proofs.Common.{sym, subst, append-nil, ◌-◌, append_assoc, Bool, map}
use Rattle.std.specs.Prelude.{nat_lt, nat_eq, ℤ, flat_map, is_some, ◌||◌, ◌-ℤ◌, ◌&&◌}
use Rattle.std.proofs.lemmas.Bool.Decides.{nat_tests}
use Rattle.std.proofs.lemmas.Bool.{cases_lt, cases_eq}
use Rattle.std.proofs.lemmas.Grind.{get_or-set_at}
use Rattle.std.proofs.lemmas.List.{get_or-set_other, length-set, take-append-drop, get_or-replicate, set-get_or}
use Rattle.std.proofs.lemmas.List.{length-replicate}
use Rattle.twkb_points.specs.Point.{Point, origin}
use Rattle.twkb_tree.specs.Admits.{steps_to, parent, first_child, fits, IsAdmitted}
use Rattle.twkb_tree.specs.Rows.{Row, row_points, rows, IsAbove, AreValidRowsOfOne, AreShallow, rows_of_each}
use Rattle.twkb_tree.specs.Rows.{rows_below, ring_rows, polygon_rows, plain_row, first_id, other_ids, own_points}
use Rattle.twkb_tree.specs.Rows.{kind_in}
use Rattle.twkb_tree.specs.Tree.{Tree, Ids, Simple, point, line, polygon, multi_point, multi_line, multi_polygon}
use Rattle.twkb_tree.specs.Tree.{flatten, points_in, point_list, HasIds, IdsFit}
use Rattle.twkb_tree.specs.Limits.{largest_limits, IsValid}
use Rattle.twkb_tree.proofs.TreeLemmas.{length-rows_with}
use Rattle.twkb_tree.proofs.RowForest.{both_true, within_test}
use Rattle.twkb_tree.proofs.RowLaws.{AreDeep, row_points-with, admitted_rows, valid_depths}
use Rattle.twkb_flat.specs.Rows.{row_depth_cap, row_with, IsNode}
use Rattle.twkb_flat.specs.declared.node.Node.{Node}
use Rattle.twkb_grammar.specs.declared.style.Style.{Style}
use Rattle.twkb_writer.specs.Sizes.{weights_cap, parts_in, ids_in}
use Rattle.twkb_writer.specs.Depths.{IsBlankFrom}
use Rattle.twkb_writer.specs.declared.totals.RowTotals.{RowTotals}
use Rattle.twkb_writer.specs.Totals.{blank, IsSmall, tail_of, with_component, id_len, lead_len, is_bare, signed_len}
use Rattle.twkb_writer.specs.Totals.{number_len, way_len, from_origin}
use Rattle.twkb_writer.specs.MeasuredRows.{totals, row_totals, points_ahead, ahead_of, cost_of, weight, weights}
use Rattle.twkb_writer.specs.MeasuredRows.{measured, row_entry, option_list, tail_after, TakenRow, Stands, AreNested}
use Rattle.twkb_writer.specs.MeasuredRows.{AreMeasurable}
use Rattle.twkb_writer.specs.declared.depths.TheConstants.{DEPTHS}
use Rattle.twkb_writer.specs.declared.sizes.Entry.{Entry}
use Rattle.twkb_writer.specs.declared.tails.TailTotals.{TailTotals}
use Rattle.twkb_num.specs.Spelling.{zigzag_of}
use Rattle.twkb_num.specs.Varint.{varint_of}
use Rattle.twkb_tree.specs.declared.kind.Kind.{Kind}
use Rattle.twkb_tree.specs.declared.kind.Kind.TheVariants as kind
use Rattle.twkb_tree.proofs.RowSteps.{above_less}
use Rattle.twkb_grammar.specs.Items.{Slot, OfCount, OfId, OfPoint, fields, slots, run_of, rings_of, id_slots, flags}
use Rattle.twkb_grammar.specs.Items.{members, parts}
use Rattle.twkb_grammar.specs.Roles.{Counted, Points, Components}
use Rattle.twkb_flat.proofs.BuildLemmas.{AreFor}
use Rattle.twkb_grammar.specs.Written.{varints, is_empty, has_any}
use Rattle.twkb_grammar.proofs.Bodies.{steps, slot_points, fields_are, points_are}
use Rattle.twkb_writer.specs.declared.precisions.Precisions.TheVariants.{Absent}
use Rattle.twkb_writer.proofs.TreeBytes.{part_slots, points_ones}
use Rattle.twkb_writer.proofs.BelowLemmas.{deep-rings}

-- ==== The totals of the rows at one depth, by the first row.

-- a row above the depth ends its rows
totals_above : (style : Style) (k : ℕ) (r : Row) (rs : List Row) → r.depth < k → totals style k (r ∷ rs) ≡ blank
totals_above style k r rs h = let lt : nat_lt r.depth k ≡ true = grind (arith, nat_tests) in rw lt refl

-- a row at the depth is counted
pub totals_at : (style : Style) (k : ℕ) (r : Row) (rs : List Row) → r.depth ≡ k
    → totals style k (r ∷ rs) ≡ row_totals style r.kind (length r.points) r.id r.precision
    (totals style (suc k) rs) (tail_of (r.points ++ points_ahead rs)) (totals style k rs)
totals_at style k r rs e =
    let lt : nat_lt r.depth k ≡ false = grind (arith, nat_tests) in
    let eq : nat_eq r.depth k ≡ true = grind (arith, nat_tests) in
    rw (lt, eq) refl

-- a deeper row is passed over
totals_below : (style : Style) (k : ℕ) (r : Row) (rs : List Row) → k < r.depth
    → totals style k (r ∷ rs) ≡ totals style k rs
totals_below style k r rs h =
    let lt : nat_lt r.depth k ≡ false = grind (arith, nat_tests) in
    let eq : nat_eq r.depth k ≡ false = grind (arith, nat_tests) in
    rw (lt, eq) refl

-- nothing is counted at a depth if the next row is above it
pub totals_none : (style : Style) (k : ℕ) (rs : List Row) → IsAbove k rs → totals style k rs ≡ blank
totals_none style k [] h = refl
totals_none style k (r ∷ rs) h = totals_above style k r rs h

-- deeper rows are passed over
pub totals_past : (style : Style) (k : ℕ) (xs rest : List Row) → AreDeep (suc k) xs
    → totals style k (xs ++ rest) ≡ totals style k rest
totals_past style k [] rest h = refl
totals_past style k (x ∷ xs) rest h = totals_below style k x (xs ++ rest) (omega (arith, h.0))
    ∙ totals_past style k xs rest h.1

-- ==== Bounds on the totals of rows.

-- the totals at one depth weigh at most as much as those at all depths
weight_within : (ls : List RowTotals) (k : ℕ) → weight (get_or ls k blank) ≤ weights ls
weight_within [] k = omega arith
weight_within (l ∷ ls) zero = omega arith
weight_within (l ∷ ls) (suc k) = omega (arith, weight_within ls k)

-- the weights with other totals at one depth
weights-set : (ls : List RowTotals) (k : ℕ) (l : RowTotals) → k < length ls
    → weights (set ls k l) + weight (get_or ls k blank) ≡ weights ls + weight l
weights-set [] k l h = absurd (omega arith)
weights-set (x ∷ ls) zero l h = omega arith
weights-set (x ∷ ls) (suc k) l h = omega (arith, weights-set ls k l (omega arith))

-- totals of no rows weigh nothing
weights-blank : (ls : List RowTotals) → ((k : ℕ) → k < length ls → get_or ls k blank ≡ blank) → weights ls ≡ 0
weights-blank [] h = refl
weights-blank (l ∷ ls) h = omega (
  arith,
  ap weight (h 0 (omega arith)),
  weights-blank ls (λ k lt. h (suc k) (omega arith)),
)

-- ==== The pass over rows, from the last to the first, one row at a time.

-- an array has the totals of the rows at each depth
abbrev HasTotals : Style → List RowTotals → List Row → Type 0
HasTotals style by_depth rs = (k : ℕ) → k < DEPTHS → get_or by_depth k blank ≡ totals style k rs

-- the array with one depth set, and the depth below it blank
abbrev pub set_row : List RowTotals → ℕ → RowTotals → List RowTotals
set_row by_depth d l = set (set by_depth (d + 1) blank) d l

above_more : (j k : ℕ) (rs : List Row) → j ≤ k → IsAbove j rs → IsAbove k rs
above_more j k [] le h = tt
above_more j k (r ∷ rs) le h = omega arith

-- the array after one more row before the others
pub stands_step : (style : Style) (by_depth : List RowTotals) (r : Row) (rs : List Row) (own : RowTotals)
    → length by_depth ≡ DEPTHS → r.depth ≤ row_depth_cap → IsAbove (r.depth + 2) rs
    → own ≡ row_totals style r.kind (length r.points) r.id r.precision (totals style (suc r.depth) rs)
    (tail_of (r.points ++ points_ahead rs)) (totals style r.depth rs)
    → HasTotals style by_depth rs → HasTotals style (set_row by_depth r.depth own) (r ∷ rs)
stands_step style by_depth r rs own whole deep child is stands k small =
    let d : ℕ = r.depth in
    let cleared : List RowTotals = set by_depth (d + 1) blank in
    let whole2 : length cleared ≡ DEPTHS = length-set by_depth (d + 1) blank ∙ whole in
    elim (cases_eq k d) [
      | inl same ↦
          get_or-set_at cleared d k own blank same (omega arith) ∙ is ∙ sym (totals_at style d r rs refl)
          ∙ ap (λ (j : ℕ). totals style j (r ∷ rs)) (sym same)
      | inr other ↦
          get_or-set_other cleared d k own blank other
          ∙ elim (cases_eq k (d + 1)) [
            | inl next ↦
                get_or-set_at by_depth (d + 1) k blank blank next (omega arith)
                ∙ sym (totals_above style k r rs (omega arith))
            | inr apart ↦
                get_or-set_other by_depth (d + 1) k blank blank apart ∙ stands k small
                ∙ elim (cases_lt k d) [
                  | inl lower ↦ sym (totals_below style k r rs lower)
                  | inr upper ↦
                      (let far : d + 2 ≤ k = omega arith in
                      totals_none style k rs (above_more (d + 2) k rs far child)
                      ∙ sym (totals_above style k r rs (omega arith)))
                ]
          ]
    ]

-- the weights with one row's totals set
weights_step : (by_depth : List RowTotals) (d : ℕ) (own : RowTotals) → d + 1 < length by_depth
    → weights (set_row by_depth d own) + weight (get_or by_depth (d + 1) blank)
    + weight (get_or by_depth d blank) ≡ weights by_depth + weight own
weights_step by_depth d own small =
    let cleared : List RowTotals = set by_depth (d + 1) blank in
    let apart : d ≢ d + 1 = λ e. omega arith in
    omega (
      arith,
      weights-set by_depth (d + 1) blank small,
      weights-set cleared d own (omega (arith, length-set by_depth (d + 1) blank)),
      ap weight (get_or-set_other by_depth (d + 1) d blank blank apart),
    )

-- the points up to the end of their geometry, after one more row before the others
tail_by : (p : Option ℤ) (ps : List Point) → tail_after p (tail_of ps) ≡ tail_of (ahead_of p ps)
tail_by None ps = refl
tail_by (Some p) ps = refl

-- a row's cost, and the bytes of the points that it leaves
cost_within : (p : Option ℤ) (t : TailTotals) → cost_of p t.bytes + (tail_after p t).bytes ≤ 100 + t.bytes
cost_within None t = omega arith
cost_within (Some p) t = omega arith

-- ---- the pass with one more row

-- at first there are no rows
pub stands_none : (style : Style) (by_depth : List RowTotals) (t : TailTotals) → IsBlankFrom 0 by_depth
    → t ≡ tail_of [] → Stands style [] by_depth t
stands_none style by_depth t none is = record {
  size = none.size;
  totals_are = λ k h. none.blanks k (omega arith) h;
  tail_is = is;
  small = omega (
    arith,
    weights-blank by_depth (λ k h. none.blanks k (omega arith) (omega (arith, none.size))),
    ap (λ (u : TailTotals). u.bytes) is,
  );
}

-- the totals kept for a depth are small
pub totals_small : (style : Style) (rs : List Row) (by_depth : List RowTotals) (t : TailTotals)
    → Stands style rs by_depth t → AreMeasurable rs → (k : ℕ) → IsSmall (get_or by_depth k blank)
totals_small style rs by_depth t stands fit k =
    let within = weight_within by_depth k in
    let small = stands.small in
    record {
      members = omega (arith, within, small, fit.few_rows, fit.few_points);
      ids = omega (arith, within, small, fit.few_rows, fit.few_points);
      bytes = omega (arith, within, small, fit.few_rows, fit.few_points);
    }

-- the points up to the next geometry have few bytes
pub tail_small : (style : Style) (rs : List Row) (by_depth : List RowTotals) (t : TailTotals)
    → Stands style rs by_depth t → AreMeasurable rs → t.bytes ≤ weights_cap
tail_small style rs by_depth t stands fit = omega (arith, stands.small, fit.few_rows, fit.few_points)

-- the pass after one more row before the others, and the row's entry if it is a geometry itself
pub stands_more : (style : Style) (node : Node) (ps : List Point) (rs : List Row)
    (by_depth new : List RowTotals) (tail points : TailTotals) (e : Option Entry)
    → Stands style rs by_depth tail → AreMeasurable (row_with node.row ps ∷ rs) → length ps ≡ node.points
    → points ≡ tail_of (ps ++ points_ahead rs) → points.bytes ≤ tail.bytes + 20 * node.points
    → TakenRow style node points by_depth new e
    → Stands style (row_with node.row ps ∷ rs) new (tail_after node.row.precision points)
    × (option_list e ++ measured style rs ≡ measured style (row_with node.row ps ∷ rs))
stands_more style node ps rs by_depth new tail points e stands fit count points_are short row =
    let d : ℕ = node.row.depth in
    let r : Row = row_with node.row ps in
    let next : d + 1 ≡ suc d = omega arith in
    let own = sym count in
    let below = stands.totals_are (d + 1) (omega (arith, fit.nested.0)) ∙ ap (λ k. totals style k rs) next in
    let others = stands.totals_are d (omega (arith, fit.nested.0)) in
    let own_is : row.own ≡ row_totals style r.kind (length ps) r.id r.precision (totals style (suc d) rs)
    (tail_of (ps ++ points_ahead rs)) (totals style d rs) =
    row.own_is ∙ (λ i. row_totals style r.kind (own i) r.id r.precision (below i) (points_are i) (others i)) in
    let deep : d + 1 < length by_depth = omega (arith, fit.nested.0, stands.size) in
    let after : Stands style (r ∷ rs) (set_row by_depth d row.own) (tail_after r.precision points) = record {
      size = length-set (set by_depth (d + 1) blank) d row.own ∙ length-set by_depth (d + 1) blank ∙ stands.size;
      totals_are = stands_step style by_depth r rs row.own stands.size fit.nested.0 fit.nested.1 own_is
          stands.totals_are;
      tail_is = ap (tail_after r.precision) points_are ∙ tail_by r.precision (ps ++ points_ahead rs);
      small = omega (
        arith,
        weights_step by_depth d row.own deep,
        row.own_small,
        cost_within r.precision points,
        stands.small,
        short,
        count,
        length-append ps (row_points rs),
      );
    } in (
      subst (λ (l : List RowTotals). Stands style (r ∷ rs) l (tail_after r.precision points))
          (sym row.set_both) after,
      ap (λ (o : Option Entry). option_list o ++ measured style rs) (row.entry_is
          ∙ (λ i. row_entry style r.kind (own i) r.precision (below i) (points_are i))),
    )

-- ==== Rows that can be measured.

-- the rows after some rows can be measured too
pub measurable_after : (xs ys : List Row) → AreMeasurable (xs ++ ys) → AreMeasurable ys
measurable_after [] ys fit = fit
measurable_after (x ∷ xs) ys fit = measurable_after xs ys (record {
  few_rows = omega (arith, fit.few_rows);
  few_points = omega (arith, fit.few_points, length-append x.points (row_points (xs ++ ys)));
  nested = fit.nested.2;
})

-- the same from a place on
pub measurable_from : (i : ℕ) (rs : List Row) → AreMeasurable rs → AreMeasurable (drop i rs)
measurable_from i rs fit = measurable_after (take i rs) (drop i rs)
    (subst AreMeasurable (sym (take-append-drop i rs)) fit)

-- an admitted row is at most one level deeper than the row before it
step_within : (d : ℕ) (r : Row) (before : List Row) → steps_to d (r ∷ before) ≡ true → d < r.depth + 2
step_within zero r before h = omega arith
step_within (suc d) r before h = let le = within_test d r.depth h in omega arith

-- rows before admitted rows are admitted
admitted_before : (xs before : List Row) → IsAdmitted (reverse_aux xs before) → IsAdmitted before
admitted_before [] before h = h
admitted_before (x ∷ xs) before h = (admitted_before xs (x ∷ before) h).1

next_within : (r : Row) (rs before : List Row) → IsAdmitted (reverse_aux rs (r ∷ before)) → IsAbove (r.depth + 2) rs
next_within r [] before h = tt
next_within r (s ∷ rs) before h =
    let admitted = (admitted_before rs (s ∷ r ∷ before) h).0 in
    step_within s.depth r before (both_true (steps_to s.depth (r ∷ before))
    (fits (parent s.depth (r ∷ before)) (first_child s.depth (r ∷ before)) s) admitted).0

-- admitted rows are nested
nested : (rs before : List Row) → AreShallow row_depth_cap rs → IsAdmitted (reverse_aux rs before) → AreNested rs
nested [] before shallow h = tt
nested (r ∷ rs) before shallow h =
    (shallow.0, next_within r rs before h, nested rs (r ∷ before) shallow.1 h)

-- the rows of a valid geometry can be measured
pub measurable : (g : Tree) → IsValid largest_limits g → AreMeasurable (rows 0 g)
measurable g valid =
    let one : rows 0 g ++ [] ≡ rows 0 g = append-nil (rows 0 g) in record {
      few_rows = omega (arith, length-rows_with None 0 g, valid.nodes_kept);
      few_points = omega (arith, ap (λ ps. length ps) (row_points-with None 0 g), valid.points_kept);
      nested = nested (rows 0 g) [] (valid_depths largest_limits (rows 0 g) (g ∷ [], (valid, tt), one))
          (admitted_rows (rows 0 g) (g ∷ [], (valid.tree, tt), one));
    }

-- the rows of a flat form can be measured
pub flat_measurable : (rs : List Row) → AreValidRowsOfOne largest_limits rs → AreMeasurable rs
flat_measurable [] v = record { few_rows = omega arith; few_points = omega arith; nested = tt }
flat_measurable (r ∷ rs) v = subst AreMeasurable v.2 (measurable v.0 v.1)

-- no node is deeper than the cap
pub node_depth : (rs : List Row) (i : ℕ) (node : Node) → AreMeasurable rs → IsNode rs i node
    → node.row.depth ≤ row_depth_cap
node_depth rs i node fit is = (subst AreMeasurable is.here (measurable_from i rs fit)).nested.0

-- ==== Totals by depth, of no rows from a depth on.

pub blank_totals : (l : RowTotals) → l ≡ blank → IsBlankFrom 0 (replicate DEPTHS l)
blank_totals l none = record {
  size = length-replicate DEPTHS l;
  within = omega arith;
  blanks = λ k from small. get_or-replicate DEPTHS k l blank small ∙ none;
}

-- totals are those made blank, or some that were there
set_blank : (by_depth : List RowTotals) (i k : ℕ) (l : RowTotals) → l ≡ blank → i < length by_depth
    → (k ≢ i → get_or by_depth k blank ≡ blank) → get_or (set by_depth i l) k blank ≡ blank
set_blank by_depth i k l none here there =
    elim (cases_eq k i) [
      | inl same ↦ get_or-set_at by_depth i k l blank same here ∙ none
      | inr other ↦ get_or-set_other by_depth i k l blank other ∙ there other
    ]

-- the totals of a depth after the last one with rows are already blank
pub blank_there : (used : ℕ) (by_depth now : List RowTotals) (depth : ℕ) → IsBlankFrom used by_depth
    → by_depth ≡ now → used ≤ depth → depth < DEPTHS → now ≡ set now depth blank
blank_there used by_depth now depth old view above small =
    let kept : by_depth ≡ set by_depth depth blank = sym (ap (λ (l : RowTotals). set by_depth depth l)
    (sym (old.blanks depth above small)) ∙ set-get_or by_depth depth blank) in
    subst (λ (ls : List RowTotals). ls ≡ set ls depth blank) view kept

-- the totals of the last depth with rows are made blank
pub blank_last : (used : ℕ) (by_depth : List RowTotals) (l : RowTotals) → l ≡ blank → 0 < used
    → IsBlankFrom used by_depth → IsBlankFrom (used - 1) (set by_depth (used - 1) l)
blank_last used by_depth l none some old = record {
  size = length-set by_depth (used - 1) l ∙ old.size;
  within = omega (arith, old.within);
  blanks = λ k from small. set_blank by_depth (used - 1) k l none
      (omega (arith, old.within, old.size)) (λ (other : k ≢ used - 1).
      old.blanks k (omega (arith, other)) small);
}

-- ==== The totals of the parts of a simple geometry, which are rows without a precision.

-- the totals after each of these parts is added before the rows
abbrev pub with_each : {A : Type 0} → (Option ℤ → A → RowTotals → RowTotals) → Ids → List A → RowTotals → RowTotals
with_each w ids [] l = l
with_each w ids (x ∷ xs) l = w (first_id ids) x (with_each w (other_ids ids) xs l)

-- What rows at depth d add to others that may come after them: their totals change by `add`, they
-- have the points `ps` of the geometry before them, and the entries `es`.
pub record AreCounted (style : Style) (d : ℕ) (May : List Row → Type 0) (rs : List Row)
    (add : RowTotals → RowTotals) (ps : List Point) (es : List Entry) : Type 0 where
  pub begins : (rest : List Row) → May rest → May (rs ++ rest)
  pub counts : (rest : List Row) → May rest → totals style d (rs ++ rest) ≡ add (totals style d rest)
  pub ahead : (rest : List Row) → May rest → points_ahead (rs ++ rest) ≡ ps ++ points_ahead rest
  pub entries : (rest : List Row) → May rest → measured style (rs ++ rest) ≡ es ++ measured style rest

-- no rows add nothing
pub counted_none : (style : Style) (d : ℕ) (May : List Row → Type 0) → AreCounted style d May [] (λ l. l) [] []
counted_none style d May = record {
  begins = λ rest h. h;
  counts = λ rest h. refl;
  ahead = λ rest h. refl;
  entries = λ rest h. refl;
}

-- what rows add before other rows
pub counted_join : {style : Style} {d : ℕ} {May : List Row → Type 0} {xs ys : List Row}
    {f g : RowTotals → RowTotals} {ps qs : List Point} {es fs : List Entry}
    → AreCounted style d May xs f ps es → AreCounted style d May ys g qs fs
    → AreCounted style d May (xs ++ ys) (λ l. f (g l)) (ps ++ qs) (es ++ fs)
counted_join {style} {d} {May} {xs} {ys} {f} {g} {ps} {qs} {es} {fs} a b = record {
  begins = λ rest h. subst May (sym (append_assoc xs ys rest)) (a.begins (ys ++ rest) (b.begins rest h));
  counts = λ rest h.
      ap (totals style d) (append_assoc xs ys rest) ∙ a.counts (ys ++ rest) (b.begins rest h)
      ∙ ap f (b.counts rest h);
  ahead = λ rest h.
      ap points_ahead (append_assoc xs ys rest) ∙ a.ahead (ys ++ rest) (b.begins rest h)
      ∙ ap (λ l. ps ++ l) (b.ahead rest h) ∙ sym (append_assoc ps qs (points_ahead rest));
  entries = λ rest h.
      ap (measured style) (append_assoc xs ys rest) ∙ a.entries (ys ++ rest) (b.begins rest h)
      ∙ ap (λ l. es ++ l) (b.entries rest h) ∙ sym (append_assoc es fs (measured style rest));
}

-- what parts add, none of which is a geometry
parts_each : {A : Type 0} {style : Style} {d : ℕ} {f : Option ℤ → A → List Row}
    {w : Option ℤ → A → RowTotals → RowTotals} {g : A → List Point}
    → ((id : Option ℤ) (x : A) → AreCounted style d (IsAbove (suc d)) (f id x) (w id x) (g x) [])
    → (ids : Ids) (xs : List A)
    → AreCounted style d (IsAbove (suc d)) (rows_of_each f ids xs) (with_each w ids xs) (flat_map g xs) []
parts_each {style = style} {d} part ids [] = counted_none style d (IsAbove (suc d))
parts_each part ids (x ∷ xs) = counted_join (part (first_id ids) x) (parts_each part (other_ids ids) xs)

-- ---- parts of one row each: rings, points, linestrings

-- the totals with one such row before the others
abbrev pub with_row_of : {A : Type 0} → Kind → (A → List Point) → Option ℤ → A → RowTotals → RowTotals
with_row_of k g id x l = with_component k (length (g x)) id blank l

-- one such row is a part
one_part : (style : Style) (d : ℕ) (k : Kind) (id : Option ℤ) (ps : List Point)
    → AreCounted style d (IsAbove (suc d)) (plain_row d k id ps ∷ []) (with_component k (length ps) id blank) ps []
one_part style d k id ps = record {
  begins = λ rest h. (let le : d < suc d = omega arith in le);
  counts = λ rest h. totals_at style d (plain_row d k id ps) rest refl
      ∙ ap (λ (l : RowTotals). with_component k (length ps) id l (totals style d rest))
      (totals_none style (suc d) rest h);
  ahead = λ rest h. refl;
  entries = λ rest h. refl;
}

-- rows of one part each
ones : {A : Type 0} (style : Style) (d : ℕ) (k : Kind) (g : A → List Point) (ids : Ids) (xs : List A)
    → AreCounted style d (IsAbove (suc d)) (rows_of_each (λ id x. plain_row d k id (g x) ∷ []) ids xs)
    (with_each (with_row_of k g) ids xs) (flat_map g xs) []
ones style d k g ids xs = parts_each (λ id x. one_part style d k id (g x)) ids xs

-- ---- polygons with their rings

-- the totals of rings
abbrev pub rings_totals : List (List Point) → RowTotals
rings_totals rings = with_each (with_row_of kind.Ring (λ ps. ps)) None rings blank

-- the totals with a polygon before the others
abbrev pub with_polygon : Option ℤ → List (List Point) → RowTotals → RowTotals
with_polygon id rings l = with_component kind.Polygon 0 id (rings_totals rings) l

-- a polygon with its rings is a part
polygon_part : (style : Style) (d : ℕ) (id : Option ℤ) (rings : List (List Point))
    → AreCounted style d (IsAbove (suc d)) (polygon_rows d id rings) (with_polygon id rings) (flatten rings) []
polygon_part style d id rings =
    let below = ones style (suc d) kind.Ring (λ ps. ps) None rings in
    record {
      begins = λ rest h. (let le : d < suc d = omega arith in le);
      counts = λ rest h.
          totals_at style d (plain_row d kind.Polygon id []) (ring_rows (suc d) rings ++ rest) refl
          ∙ (λ i. with_component kind.Polygon 0 id ((below.counts rest (above_less (suc d) rest h)
          ∙ ap (with_each (with_row_of kind.Ring (λ ps. ps)) None rings) (totals_none style (suc d) rest h)) i)
          (totals_past style d (ring_rows (suc d) rings) rest (deep-rings (suc d) rings) i));
      ahead = λ rest h. below.ahead rest (above_less (suc d) rest h);
      entries = λ rest h. below.entries rest (above_less (suc d) rest h);
    }

-- ---- the parts of a simple shape

-- the totals with the parts of a shape before others
abbrev pub with_parts : Simple → RowTotals → RowTotals
with_parts (polygon rings) = with_each (with_row_of kind.Ring (λ ps. ps)) None rings
with_parts (multi_point ids ps) = with_each (with_row_of kind.Point (λ p. p ∷ [])) ids ps
with_parts (multi_line ids lines) = with_each (with_row_of kind.Linestring (λ ps. ps)) ids lines
with_parts (multi_polygon ids areas) = with_each with_polygon ids areas
with_parts _ = λ l. l

-- the totals of the parts of a shape
abbrev pub components_totals : Simple → RowTotals
components_totals s = with_parts s blank

-- the points of the parts
abbrev pub points_below : Simple → List Point
points_below (polygon rings) = flatten rings
points_below (multi_point ids ps) = flat_map (λ p. p ∷ []) ps
points_below (multi_line ids lines) = flatten lines
points_below (multi_polygon ids areas) = flat_map flatten areas
points_below _ = []

-- what the rows of the parts add
pub parts_counted : (style : Style) (d : ℕ) (s : Simple)
    → AreCounted style d (IsAbove (suc d)) (rows_below d s) (with_parts s) (points_below s) []
parts_counted style d (polygon rings) = ones style d kind.Ring (λ ps. ps) None rings
parts_counted style d (multi_point ids ps) = ones style d kind.Point (λ p. p ∷ []) ids ps
parts_counted style d (multi_line ids lines) = ones style d kind.Linestring (λ ps. ps) ids lines
parts_counted style d (multi_polygon ids areas) = parts_each (polygon_part style d) ids areas
parts_counted style d _ = counted_none style d (IsAbove (suc d))

flat_map_ones : (ps : List Point) → flat_map (λ p. p ∷ []) ps ≡ ps
flat_map_ones [] = refl
flat_map_ones (p ∷ ps) = ap (λ qs. p ∷ qs) (flat_map_ones ps)

-- the points of the row and of its parts are those of the shape
pub all_points : (s : Simple) → own_points s ++ points_below s ≡ points_in s
all_points (point o) = append-nil (point_list o)
all_points (line ps) = append-nil ps
all_points (multi_point ids ps) = flat_map_ones ps
all_points _ = refl

-- ==== The number of members, and the bytes of ids and of rows at a depth, part by part.

-- the number of bytes of some ids
abbrev pub ids_sum : List ℤ → ℕ
ids_sum [] = 0
ids_sum (id ∷ ids) = signed_len id + ids_sum ids

-- the number of bytes of optional ids
abbrev pub ids_len : Ids → ℕ
ids_len None = 0
ids_len (Some ids) = ids_sum ids

-- a row is counted with its id
pub record IsCounted {A : Type 0} (w : Option ℤ → A → RowTotals → RowTotals) : Type 0 where
  pub members : (id : Option ℤ) (x : A) (l : RowTotals) → (w id x l).members ≡ l.members + 1
  pub ids : (id : Option ℤ) (x : A) (l : RowTotals) → (w id x l).ids ≡ id_len id + l.ids
  pub named : (id : Option ℤ) (x : A) (l : RowTotals) → (w id x l).named ≡ (is_some id || l.named)

-- there are as many members as parts, with the bytes of the parts' ids
listed_each : {A : Type 0} (w : Option ℤ → A → RowTotals → RowTotals) → IsCounted w → (ids : Ids) (xs : List A)
    → AreFor ids (length xs)
    → ((with_each w ids xs blank).members ≡ length xs) × ((with_each w ids xs blank).ids ≡ ids_len ids)
    × ((with_each w ids xs blank).named ≡ (is_some ids && has_any xs))
listed_each w counted None [] e = (refl, refl, refl)
listed_each w counted None (x ∷ xs) e =
    let l = with_each w None xs blank in
    let (members, bytes, named) = listed_each w counted None xs e in
    (omega (arith, counted.members None x l), omega (arith, counted.ids None x l), counted.named None x l ∙ named)
listed_each w counted (Some []) [] e = (refl, refl, refl)
listed_each w counted (Some (id ∷ ids)) (x ∷ xs) e =
    let l = with_each w (Some ids) xs blank in
    let (members, bytes, named) = listed_each w counted (Some ids) xs (omega (arith, e)) in (
      omega (arith, counted.members (Some id) x l),
      counted.ids (Some id) x l ∙ ap (λ n. signed_len id + n) bytes,
      counted.named (Some id) x l,
    )
listed_each w counted _ _ e = absurd (omega (arith, e))

-- the same of members that all have ids, or none
pub members_listed : {A : Type 0} (w : Option ℤ → A → RowTotals → RowTotals) → IsCounted w → (ids : Ids)
    (xs : List A) → HasIds ids (length xs)
    → ((with_each w ids xs blank).members ≡ length xs) × ((with_each w ids xs blank).ids ≡ ids_len ids)
    × ((with_each w ids xs blank).named ≡ is_some ids)
members_listed w counted None xs h = listed_each w counted None xs tt
members_listed w counted (Some ids) [] h = absurd (omega (arith, h.0))
members_listed w counted (Some ids) (x ∷ xs) h = listed_each w counted (Some ids) (x ∷ xs) h.1

-- ==== The length of a simple geometry's body, from its rows.

-- ---- the bytes of slots

-- the length of a number
pub length-number : (n : ℕ) → length (varint_of n) ≡ number_len n
unfolding number_len
length-number n = refl

-- the number of bytes of counts and ids
abbrev pub slots_len : List Slot → ℕ
slots_len [] = 0
slots_len (OfCount c n ∷ ps) = number_len n + slots_len ps
slots_len (OfId id ∷ ps) = signed_len id + slots_len ps
slots_len (OfPoint p ∷ ps) = slots_len ps

-- the bytes of slots are those of their counts and ids, and of the differences through their
-- points
pub length-steps : (p : Point) (ps : List Slot)
    → length (varints (steps p ps)) ≡ slots_len ps + way_len p (slot_points ps)
length-steps p [] = refl
length-steps p (OfCount c n ∷ ps) = omega
    (arith, length-append (varint_of n) (varints (steps p ps)), length-number n, length-steps p ps)
length-steps p (OfId id ∷ ps) = omega (
  arith,
  length-append (varint_of (zigzag_of id))
      (varints (steps p ps)),
  length-number (zigzag_of id),
  length-steps p ps,
)
length-steps p (OfPoint q ∷ ps) =
    let x : ℕ = zigzag_of (q.x -ℤ p.x) in
    let y : ℕ = zigzag_of (q.y -ℤ p.y) in
    omega (
      arith,
      length-append (varint_of x) (varint_of y ++ varints (steps q ps)),
      length-append (varint_of y) (varints (steps q ps)),
      length-number x,
      length-number y,
      length-steps q ps,
    )

-- the length of a simple geometry's body
pub length-fields : (s : Simple) → length (varints (fields s)) ≡ slots_len (slots s) + way_len origin (points_in s)
length-fields s = ap (λ fs. length (varints fs)) (fields_are s) ∙ length-steps origin (slots s)
    ∙ ap (λ ps. slots_len (slots s) + way_len origin ps) (points_are s)

-- the bytes of the differences of a tail
pub from_origin-tail_of : (ps : List Point) → from_origin (tail_of ps) ≡ way_len origin ps
from_origin-tail_of [] = refl
from_origin-tail_of (p ∷ ps) = refl

slots_len-append : (ps qs : List Slot) → slots_len (ps ++ qs) ≡ slots_len ps + slots_len qs
slots_len-append [] qs = omega arith
slots_len-append (OfPoint p ∷ ps) qs = slots_len-append ps qs
slots_len-append (_ ∷ ps) qs = omega (arith, slots_len-append ps qs)

slots_len-points : (ps : List Point) → slots_len (map OfPoint ps) ≡ 0
slots_len-points [] = refl
slots_len-points (p ∷ ps) = slots_len-points ps

slots_len-ids : (ids : List ℤ) → slots_len (map OfId ids) ≡ ids_sum ids
slots_len-ids [] = refl
slots_len-ids (id ∷ ids) = ap (λ n. signed_len id + n) (slots_len-ids ids)

slots_len-id_slots : (ids : Ids) → slots_len (id_slots ids) ≡ ids_len ids
slots_len-id_slots None = refl
slots_len-id_slots (Some ids) = slots_len-ids ids

slots_len-run : (ps : List Point) → number_len (length ps) + 0 ≡ slots_len (run_of ps)
slots_len-run ps = ap (λ n. number_len (length ps) + n) (sym (slots_len-points ps))

-- ---- the totals of the parts of a shape

-- the totals of parts: this many, with these ids and bytes
pub record IsTotal (l : RowTotals) (n : ℕ) (ids : Ids) (bytes : ℕ) : Type 0 where
  pub members : l.members ≡ n
  pub ids_are : l.ids ≡ ids_len ids
  pub named : l.named ≡ is_some ids
  pub bytes_are : l.bytes ≡ bytes
  pub no_bounds : l.bounds ≡ None
  pub no_precisions : l.precisions ≡ Absent

-- the totals with one more part
abbrev with_part : {A : Type 0} → Kind → (A → ℕ) → (A → RowTotals) → Option ℤ → A → RowTotals → RowTotals
with_part k own below id x l = with_component k (own x) id (below x) l

-- the bytes of parts are those of their slots, and parts add no bounds and no precisions
sums_each : {A : Type 0} (k : Kind) (own : A → ℕ) (below : A → RowTotals) (ms : A → List Slot)
    → ((x : A) → lead_len k (own x) (below x) + (below x).bytes ≡ slots_len (ms x)) → (ids : Ids) (xs : List A)
    → ((with_each (with_part k own below) ids xs blank).bytes ≡ slots_len (flat_map ms xs))
    × ((with_each (with_part k own below) ids xs blank).bounds ≡ None)
    × ((with_each (with_part k own below) ids xs blank).precisions ≡ Absent)
sums_each k own below ms is ids [] = (refl, refl, refl)
sums_each k own below ms is ids (x ∷ xs) =
    let more = sums_each k own below ms is (other_ids ids) xs in
    (omega (arith, is x, more.0, slots_len-append (ms x) (flat_map ms xs)), more.1, more.2)

-- the totals of parts, each with the bytes of these slots
total_each : {A : Type 0} (k : Kind) (own : A → ℕ) (below : A → RowTotals) (ms : A → List Slot)
    → ((x : A) → lead_len k (own x) (below x) + (below x).bytes ≡ slots_len (ms x))
    → (ids : Ids) (xs : List A) → HasIds ids (length xs)
    → IsTotal (with_each (with_part k own below) ids xs blank) (length xs) ids (slots_len (flat_map ms xs))
total_each k own below ms is ids xs h =
    let counted : IsCounted (with_part k own below) = record {
      members = λ id x l. refl;
      ids = λ id x l. refl;
      named = λ id x l. refl;
    } in
    let listed = members_listed (with_part k own below) counted ids xs h in
    let sums = sums_each k own below ms is ids xs in
    record {
      members = listed.0;
      ids_are = listed.1;
      named = listed.2;
      bytes_are = sums.0;
      no_bounds = sums.1;
      no_precisions = sums.2;
    }

no_parts : IsTotal blank 0 None 0
no_parts = record {
  members = refl;
  ids_are = refl;
  named = refl;
  bytes_are = refl;
  no_bounds = refl;
  no_precisions = refl;
}

total_rings : (rings : List (List Point)) → IsTotal (rings_totals rings) (length rings) None
    (slots_len (flat_map run_of rings))
total_rings rings = total_each kind.Ring (λ ps. length ps) (λ ps. blank) run_of slots_len-run None rings tt

-- the totals of a count, ids and parts
lead_total : (l : RowTotals) (n : ℕ) (ids : Ids) (bytes : ℕ) → IsTotal l n ids bytes
    → number_len l.members + l.ids + l.bytes ≡ number_len n + ids_len ids + bytes
lead_total l n ids bytes t = λ i. number_len (t.members i) + t.ids_are i + t.bytes_are i

lead_rings : (rings : List (List Point)) → number_len (rings_totals rings).members
    + (rings_totals rings).ids + (rings_totals rings).bytes ≡ slots_len (rings_of rings)
lead_rings rings = omega (arith, lead_total (rings_totals rings) (length rings) None _ (total_rings rings))

-- the totals of the parts of a shape
pub total_parts : (s : Simple) → IdsFit s
    → IsTotal (components_totals s) (parts_in s) (ids_in s) (slots_len (part_slots s))
total_parts (polygon rings) h = total_rings rings
total_parts (multi_point ids ps) h = total_each kind.Point (λ p. 1) (λ p. blank) (λ p. OfPoint p ∷ [])
    (λ p. refl) ids ps h
total_parts (multi_line ids lines) h = total_each kind.Linestring (λ ps. length ps) (λ ps. blank)
    run_of slots_len-run ids lines h
total_parts (multi_polygon ids areas) h = total_each kind.Polygon (λ rings. 0) rings_totals rings_of
    lead_rings ids areas h
total_parts _ h = no_parts

-- the bytes of a count, ids and parts are those of the slots
lead_slots : (s : Simple) (c : Counted) → IdsFit s
    → slots s ≡ OfCount c (parts_in s) ∷ id_slots (ids_in s) ++ part_slots s
    → number_len (components_totals s).members + (components_totals s).ids + (components_totals s).bytes
    ≡ slots_len (slots s)
lead_slots s c h are =
    let ms = part_slots s in
    omega (
      arith,
      lead_total (components_totals s) (parts_in s) (ids_in s) (slots_len ms) (total_parts s h),
      slots_len-append (id_slots (ids_in s)) ms,
      slots_len-id_slots (ids_in s),
      ap slots_len are,
    )

-- the bytes of the count and ids of a shape's row, and of its parts, are those of its slots
pub lead_parts : (s : Simple) → IdsFit s → lead_len (kind_in s) (length (own_points s))
    (components_totals s) + (components_totals s).bytes ≡ slots_len (slots s)
lead_parts (point None) h = refl
lead_parts (point (Some p)) h = refl
lead_parts (line ps) h = slots_len-run ps
lead_parts (polygon rings) h = lead_rings rings
lead_parts (multi_point ids ps) h = lead_slots (multi_point ids ps) Points h
    (ap (λ ms. OfCount Points (length ps) ∷ id_slots ids ++ ms) (points_ones ps))
lead_parts (multi_line ids lines) h = lead_slots (multi_line ids lines) Components h refl
lead_parts (multi_polygon ids areas) h = lead_slots (multi_polygon ids areas) Components h refl

-- ---- whether there is a body

nat_eq_more : (n : ℕ) → nat_eq (suc n) 0 ≡ false
nat_eq_more n = grind (arith, nat_tests)

bare_members : {A : Type 0} (ids : Ids) (xs : List A) (n : ℕ) → n ≡ length xs → nat_eq n 0 ≡ is_empty (members ids xs)
bare_members ids [] n e = ap (λ k. nat_eq k 0) e
bare_members None (x ∷ xs) n e = ap (λ k. nat_eq k 0) e ∙ nat_eq_more (length xs)
bare_members (Some ids) (x ∷ xs) n e = ap (λ k. nat_eq k 0) e ∙ nat_eq_more (length xs)

bare_parts : {A : Type 0} (xs : List A) (n : ℕ) → n ≡ length xs → nat_eq n 0 ≡ is_empty (parts xs)
bare_parts [] n e = ap (λ k. nat_eq k 0) e
bare_parts (x ∷ xs) n e = ap (λ k. nat_eq k 0) e ∙ nat_eq_more (length xs)

pub and_true : (b : Bool) → (b && true) ≡ b
and_true true = refl
and_true false = refl

-- the row is bare exactly if its shape has no body
pub bare_shape : (s : Simple) → IdsFit s → is_bare (length (own_points s)) (components_totals s) ≡ is_empty (flags s)
bare_shape (point None) h = refl
bare_shape (point (Some p)) h = refl
bare_shape (line ps) h = and_true (nat_eq (length ps) 0) ∙ bare_parts ps (length ps) refl
bare_shape (polygon rings) h = bare_parts rings (components_totals (polygon rings)).members
    (total_parts (polygon rings) h).members
bare_shape (multi_point ids ps) h = bare_members ids ps (components_totals (multi_point ids ps)).members
    (total_parts (multi_point ids ps) h).members
bare_shape (multi_line ids lines) h = bare_members ids lines
    (components_totals (multi_line ids lines)).members (total_parts (multi_line ids lines) h).members
bare_shape (multi_polygon ids areas) h = bare_members ids areas
    (components_totals (multi_polygon ids areas)).members
    (total_parts (multi_polygon ids areas) h).members
