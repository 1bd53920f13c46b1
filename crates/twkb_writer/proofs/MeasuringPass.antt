-- The pass over the rows of a flat form, or of a geometry, and the sizes that it finds.
use Rattle.std.proofs.Common.{◌≡◌, ℕ, ◌+◌, ◌*◌, ◌-◌, ◌<◌, ◌≤◌, List, [], ◌∷◌, ◌++◌, length, drop, Option, sym, ◌∙◌}
use Rattle.std.proofs.Common.{ap, subst, arith, ◌^◌, None, Some, refl, append-nil, zero, suc, get_or, append_assoc}
use Rattle.std.specs.Prelude.{reverse, ℤ, slice_get}
use Rattle.std.proofs.lemmas.List.{drop_all, reverse-append, reverse-reverse}
use Rattle.twkb_points.specs.Point.{Point}
use Rattle.twkb_tree.specs.Limits.{largest_limits, IsValid}
use Rattle.twkb_tree.specs.Rows.{Row, rows, row_points, own_row, rows_of_each, first_id, other_ids, ids_from}
use Rattle.twkb_tree.specs.Rows.{ring_rows, rows_with, rows_under, member_rows, AreValidRowsOfOne}
use Rattle.twkb_tree.specs.Tree.{Tree, simple, collection, saturated, Ids, trees}
use Rattle.twkb_tree.proofs.TreeLemmas.{each_next, ids_from_start, member_rows_each, own_row_first}
use Rattle.twkb_tree.proofs.RowSteps.{own_row-depth}
use Rattle.twkb_flat.specs.declared.node.Node.{Node}
use Rattle.twkb_flat.specs.Rows.{IsNode, row_with, row_depth_cap}
use Rattle.twkb_flat.specs.declared.work.Work.{Work}
use Rattle.twkb_grammar.specs.declared.style.Style.{Style}
use Rattle.twkb_grammar.specs.Written.{canonical_blob}
use Rattle.twkb_grammar.specs.declared.style.Style.TheVariants.{Full}
use Rattle.twkb_writer.specs.declared.totals.RowTotals.{RowTotals}
use Rattle.twkb_writer.specs.declared.sizes.Entry.{Entry}
use Rattle.twkb_writer.specs.declared.tails.TailTotals.{TailTotals}
use Rattle.twkb_writer.specs.Depths.{IsBlankFrom}
use Rattle.twkb_writer.specs.Totals.{blank, entry_for, tail_of}
use Rattle.twkb_writer.specs.MeasuredRows.{measured, points_ahead, option_list, tail_after, TakenRow, row_entry}
use Rattle.twkb_writer.specs.MeasuredRows.{Stands, AreMeasurable, Awaits, Adds}
use Rattle.twkb_writer.specs.Nodes.{own_points_in, ReadsExactly}
use Rattle.twkb_writer.specs.Sizes.{AreSizes}
use Rattle.twkb_writer.specs.declared.measured_tree.RowPass.{RowPass}
use Rattle.twkb_writer.proofs.MeasuringParts.{stands_none, stands_more, measurable_from, measurable, measurable_after}
use Rattle.twkb_writer.proofs.MeasuringTrees.{measured_rows, totals_blob}
use Rattle.twkb_writer.proofs.BelowLemmas.{rest_is, own_points, points_step}
use Rattle.twkb_writer.proofs.PutLemmas.{part_more, nothing_left, whole_part, exactly_none, exactly_node}
use Rattle.twkb_writer.proofs.PutLemmas.{exactly_point}
use Rattle.twkb_writer.proofs.LoneBlobLemmas.{all_own}
use Rattle.twkb_tree.specs.declared.kind.Kind.TheVariants as kind

-- ==== The pass over a flat form's nodes, from the last to the first.

-- the entries, last one first, with one more
reverse-option : (e : Option Entry) → reverse (option_list e) ≡ option_list e
reverse-option None = refl
reverse-option (Some e) = refl

-- What a pass knows after a place: the totals of the rows there, and their entries, last one first.
pub record Pass (style : Style) (rs : List Row) (by_depth : List RowTotals) (tail : TailTotals)
    (es : List Entry) : Type 0 where
  pub stands : Stands style rs by_depth tail
  pub kept : es ≡ reverse (measured style rs)

-- at the start of the pass there is no row after the place
pub pass_start : (style : Style) (rs : List Row) (n : ℕ) (by_depth : List RowTotals) (t : TailTotals)
    (es : List Entry) → length rs ≤ n → IsBlankFrom 0 by_depth → t ≡ tail_of [] → es ≡ []
    → Pass style (drop n rs) by_depth t es
pass_start style rs n by_depth t es all blanks no_tail no_entries =
    subst (λ (l : List Row). Pass style l by_depth t es) (sym (drop_all n rs all))
    (record { stands = stands_none style by_depth t blanks no_tail; kept = no_entries })

-- the pass after one more node, with its place counted from the end
pub pass_step : (style : Style) (rows : List Row) (total back : ℕ) (node : Node)
    (by_depth new : List RowTotals) (tail points before : TailTotals) (e : Option Entry) (es kept : List Entry)
    → back < total → AreMeasurable rows → IsNode rows (total - 1 - back) node
    → Pass style (drop (total - back) rows) by_depth tail es
    → ((ahead : List Point) → tail ≡ tail_of ahead
    → points ≡ tail_of (own_points_in node (row_points rows) ++ ahead))
    → points.bytes ≤ tail.bytes + 20 * node.points
    → TakenRow style node points by_depth new e → before ≡ tail_after node.row.precision points
    → kept ≡ es ++ option_list e
    → Pass style (drop (total - (back + 1)) rows) new before kept
pass_step style rows total back node by_depth new tail points before e es kept some fit is pass found
    short row tail_is kept_are =
    let i : ℕ = total - 1 - back in
    let after : i + 1 ≡ total - back = omega arith in
    let there : i ≡ total - (back + 1) = omega arith in
    let rest = rest_is rows i node is ∙ ap (λ n. drop n rows) after in
    let behind = subst (λ (l : List Row). Pass style l by_depth tail es) (sym rest) pass in
    let here = subst AreMeasurable is.here (measurable_from i rows fit) in
    let points_are = found (points_ahead is.rest) behind.stands.tail_is
    ∙ ap (λ ps. tail_of (ps ++ points_ahead is.rest)) (own_points rows i node is) in
    let more = stands_more style node is.own is.rest by_depth new tail points e behind.stands here is.count
    points_are short row in
    rw (tail_is, kept_are) (subst (λ (l : List Row). Pass style l new (tail_after node.row.precision points)
    (es ++ option_list e)) (sym is.here ∙ ap (λ n. drop n rows) there) (record {
      stands = more.0;
      kept =
          ap (λ l. l ++ option_list e) behind.kept
          ∙ ap (λ l. reverse (measured style is.rest) ++ l) (sym (reverse-option e))
          ∙ sym (reverse-append (option_list e) (measured style is.rest)) ∙ ap reverse more.1;
    }))

-- the number of points from a node on
pub points_back : (rows : List Row) (total back : ℕ) (node : Node) → back < total → IsNode rows (total - 1 - back) node
    → length (row_points (drop (total - (back + 1)) rows)) ≡ node.points + length
    (row_points (drop (total - back) rows))
points_back rows total back node some is =
    let here : total - 1 - back + 1 ≡ total - back = omega arith in
    let there : total - (back + 1) ≡ total - 1 - back = omega arith in
    ap (λ n. length (row_points (drop n rows))) there
    ∙ points_step rows (total - 1 - back) node is
    ∙ ap (λ n. node.points + length (row_points (drop n rows))) here

-- the number of points if there is one node
pub points_of_one : (rows : List Row) (node : Node) → length rows ≡ 1 → IsNode rows 0 node
    → length (row_points rows) ≡ node.points + 0
points_of_one rows node one is = points_back rows 1 0 node (omega arith) is
    ∙ ap (λ (rs : List Row). node.points + length (row_points rs))
    (drop_all 1 rows (omega (arith, one)))

-- the entries that the pass finds are the sizes
pub sizes_are : (style : Style) (rows : List Row) (sizes : List Entry)
    → AreValidRowsOfOne largest_limits rows → sizes ≡ measured style rows
    → AreSizes style rows sizes
sizes_are style [] sizes valid e = e
sizes_are style (r ∷ rs) sizes valid e = (
  valid.0,
  valid.1.tree,
  valid.2,
  e
      ∙ ap (measured style) (sym valid.2) ∙ measured_rows style valid.0 valid.1.tree,
)

-- at the first row the entries, reversed, are the sizes
pub pass_end : (style : Style) (rows : List Row) (n : ℕ) (by_depth : List RowTotals) (t : TailTotals)
    (es sizes : List Entry) → AreValidRowsOfOne largest_limits rows → n ≡ 0
    → Pass style (drop n rows) by_depth t es → sizes ≡ reverse es → AreSizes style rows sizes
pass_end style rows n by_depth t es sizes valid first pass turned =
    sizes_are style rows sizes valid (turned ∙ ap reverse
    (pass.kept ∙ ap (λ m. reverse (measured style (drop m rows))) first)
    ∙ reverse-reverse (measured style rows))

-- ==== The sizes of a flat form of one node, measured without a pass.

-- ---- the node

root_of : (g : Tree) (r : Row) (rs : List Row) → rows 0 g ≡ r ∷ rs → r.precision ≡ None → ⊥
root_of (simple p s) r rs e none =
    let same : own_row None 0 (simple p s) ≡ r = cc e in
    let some = ap (λ (q : Row). q.precision) same in cc
root_of (collection p ids gs) r rs e none =
    let same : own_row None 0 (collection p ids gs) ≡ r = cc e in
    let some = ap (λ (q : Row). q.precision) same in cc

-- the first node has a precision
pub root_whole : (rs : List Row) (node : Node) → AreValidRowsOfOne largest_limits rs
    → IsNode rs 0 node → node.row.precision ≡ None → ⊥
root_whole [] node valid is none = let e = is.here in cc e
root_whole (r ∷ rs) node valid is none = root_of valid.0 (row_with node.row is.own) is.rest (valid.2 ∙ is.here) none

-- there is no node after the only one
none_behind : (rs : List Row) (node : Node) (is : IsNode rs 0 node) → length rs ≡ 1 → is.rest ≡ []
none_behind rs node is one = rest_is rs 0 node is ∙ drop_all 1 rs (omega (arith, one))

-- ---- its points

-- the points up to the end are the node's own
pub all_points : (rs : List Row) (node : Node) (is : IsNode rs 0 node) (points before : TailTotals)
    → before ≡ tail_of []
    → ((ahead : List Point) → before ≡ tail_of ahead
    → points ≡ tail_of (own_points_in node (row_points rs) ++ ahead)) → points ≡ tail_of is.own
all_points rs node is points before none found = found [] none
    ∙ ap tail_of (append-nil (own_points_in node (row_points rs)) ∙ own_points rs 0 node is)

-- the only point is the one that was read
only_point : (rs : List Row) (node : Node) (is : IsNode rs 0 node) (p : Point) → node.points ≡ 1
    → slice_get (row_points rs) node.first.0 ≡ Some p → is.own ≡ p ∷ []
only_point rs node is p one read =
    let ps : List Point = row_points rs in
    let first : ℕ = node.first.0 in
    let end : ℕ = first + node.points in
    sym (own_points rs 0 node is)
    ∙ sym (whole_part ps first node.points)
    ∙ part_more ps first end p (omega (arith, one)) read
    ∙ ap (λ (l : List Point). p ∷ l) (nothing_left ps (first + 1) end (omega (arith, one)))

-- the reads of the node and its only point
pub reads_point : (old next new : Work) (points all : ℕ) → old.node_reads < 2 ^ 64 → old.point_reads < 2 ^ 64
    → next ≡ record old { node_reads = saturated (old.node_reads + 1) }
    → new ≡ record next { point_reads = saturated (next.point_reads + 1) }
    → points ≡ 1 → all ≡ points + 0 → ReadsExactly old 1 all new
reads_point old next new points all few_nodes few_points node_read point_read one total =
    let both : ReadsExactly old 1 1 new = exactly_point old next new 1 0
    (exactly_node old old next 0 0 (exactly_none old few_nodes few_points) node_read)
    point_read in
    let same : 1 ≡ all = omega (arith, one, total) in
    subst (λ (n : ℕ). ReadsExactly old 1 n new) same both

-- ---- its entry

-- the entry that a pass finds
measured_one : (style : Style) (rs : List Row) (node : Node) (is : IsNode rs 0 node) → length rs ≡ 1
    → measured style rs ≡ option_list (row_entry style node.row.kind node.points node.row.precision
    blank (tail_of is.own))
measured_one style rs node is one =
    let none = none_behind rs node is one in
    let own = append-nil is.own in
    ap (measured style) is.here
    ∙ ap (λ (more : List Row). measured style (row_with node.row is.own ∷ more)) none
    ∙ append-nil _
    ∙ (λ i. option_list (row_entry style node.row.kind (is.count i) node.row.precision blank (tail_of (own i))))

-- the entry of the only node is all sizes
pub sizes_of_one : (style : Style) (rs : List Row) (node : Node) (p : ℤ) (below : RowTotals)
    (points : TailTotals) (e : Entry) → AreValidRowsOfOne largest_limits rs → length rs ≡ 1
    → (is : IsNode rs 0 node) → node.row.precision ≡ Some p → below ≡ blank
    → points ≡ tail_of is.own → e ≡ entry_for style node.row.kind p node.points below points
    → AreSizes style rs (e ∷ [])
sizes_of_one style rs node p below points e valid one is whole no_rows points_are entry_is =
    let entry = entry_is ∙ (λ i. entry_for style node.row.kind p node.points (no_rows i) (points_are i)) in
    sizes_are style rs (e ∷ []) valid
    (ap (λ (x : Entry). x ∷ []) entry
    ∙ ap (λ (q : Option ℤ). option_list (row_entry style node.row.kind node.points q blank
    (tail_of is.own))) (sym whole)
    ∙ sym (measured_one style rs node is one))

-- the entry of a point is all sizes if it is the only node
pub sizes_of_point : (style : Style) (rs : List Row) (node : Node) (p : ℤ) (q : Point) (e : Entry)
    → AreValidRowsOfOne largest_limits rs → length rs ≡ 1 → IsNode rs 0 node
    → node.row.precision ≡ Some p → (node.row.kind ≡ kind.Point) × (node.points ≡ 1)
    → slice_get (row_points rs) node.first.0 ≡ Some q
    → e ≡ entry_for style kind.Point p 1 blank (tail_of (q ∷ [])) → AreSizes style rs (e ∷ [])
sizes_of_point style rs node p q e valid one is whole is_point read entry_is =
    let kind_is = sym is_point.0 in
    let points_is = sym is_point.1 in
    let own = sym (only_point rs node is q is_point.1 read) in
    sizes_of_one style rs node p blank (tail_of is.own) e valid one is whole refl refl
    (entry_is ∙ (λ i. entry_for style (kind_is i) p (points_is i) blank (tail_of (own i))))

-- ==== The rows of a geometry, added to a pass from the last to the first.

-- ---- rows before others

-- the later ones of some rows may be added first
pub awaits_last : (xs : List Row) {ys : List Row} {pass : RowPass} → Awaits pass (xs ++ ys) → Awaits pass ys
awaits_last xs {ys} w = record {
  rest = w.rest;
  stands = w.stands;
  fit = measurable_after xs (ys ++ w.rest) (subst AreMeasurable (append_assoc xs ys w.rest) w.fit);
}

-- then the earlier ones may be added
pub awaits_first : (xs : List Row) {ys : List Row} {old now : RowPass} → Awaits old (xs ++ ys) → Adds old ys now
    → Awaits now xs
awaits_first xs {ys} w added =
    let fit = subst AreMeasurable (append_assoc xs ys w.rest) w.fit in
    record {
      rest = ys ++ w.rest;
      stands = added.stands w.rest w.stands (measurable_after xs (ys ++ w.rest) fit);
      fit = fit;
    }

-- and then all are added
pub adds_both : {xs ys : List Row} {old now new : RowPass} → Adds old ys now → Adds now xs new
    → Adds old (xs ++ ys) new
adds_both {xs} {ys} {new = new} last first = record {
  stands = λ rest stands fit.
      let all = subst AreMeasurable (append_assoc xs ys rest) fit in
      subst (λ rs. Stands Full rs new.depths new.tail) (sym (append_assoc xs ys rest))
      (first.stands (ys ++ rest) (last.stands rest stands (measurable_after xs (ys ++ rest) all)) all);
}

-- equal rows are added
pub adds_same : {xs ys : List Row} {old new : RowPass} → Adds old xs new → xs ≡ ys → Adds old ys new
adds_same {old = old} {new} added same = subst (λ rs. Adds old rs new) same added

pub awaits_same : {xs ys : List Row} {pass : RowPass} → Awaits pass ys → xs ≡ ys → Awaits pass xs
awaits_same {pass = pass} w same = subst (λ rs. Awaits pass rs) (sym same) w

-- nothing is added without rows
pub adds_none : (pass : RowPass) → Adds pass [] pass
adds_none pass = record { stands = λ rest stands fit. stands }

-- ---- one row

-- a row is added as a node whose points are all points
pub row_added : (node : Node) (ps : List Point) (old new : RowPass) (points : TailTotals) (e : Option Entry)
    → length ps ≡ node.points → node.first.0 ≡ 0
    → ((ahead : List Point) → old.tail ≡ tail_of ahead → points ≡ tail_of (own_points_in node ps ++ ahead))
    → points.bytes ≤ old.tail.bytes + 20 * node.points
    → TakenRow Full node points old.depths new.depths e → new.tail ≡ tail_after node.row.precision points
    → Adds old (row_with node.row ps ∷ []) new
row_added node ps old new points e count first found short row is = record {
  stands = λ rest stands fit.
      let own = all_own ps node.first.0 node.points first (sym count) in
      subst (λ t. Stands Full (row_with node.row ps ∷ rest) new.depths t) (sym is)
      (stands_more Full node ps rest old.depths new.depths old.tail points e stands fit count
      (found (points_ahead rest) stands.tail_is ∙ ap (λ qs. tail_of (qs ++ points_ahead rest)) own) short row).0;
}

-- the rows of a polygon's rings are added
pub rings_added : (d : ℕ) {items rings : List (List Point)} {old new : RowPass}
    → Adds old (ring_rows (d + 1) items) new → items ≡ rings → Adds old (ring_rows (suc d) rings) new
rings_added d added are =
    let next : d + 1 ≡ suc d = omega arith in
    adds_same added (λ i. ring_rows (next i) (are i))

-- ---- items, from the last to the first

-- the rows of the items from a place on
abbrev pub rows_from : {A : Type 0} → (Option ℤ → A → List Row) → Ids → List A → ℕ → List Row
rows_from f ids xs k = rows_of_each f (ids_from k ids) (drop k xs)

-- the ids from one place further on
ids_further : (k : ℕ) (ids : Ids) → ids_from k (other_ids ids) ≡ ids_from (suc k) ids
ids_further zero (Some []) = refl
ids_further (suc k) (Some []) = refl
ids_further _ _ = refl

-- the rows from a place on may be added first
awaits_from : {A : Type 0} (f : Option ℤ → A → List Row) (ids : Ids) (xs : List A) (k : ℕ) (pass : RowPass)
    → Awaits pass (rows_of_each f ids xs) → Awaits pass (rows_from f ids xs k)
awaits_from f ids xs zero pass w = subst (λ js. Awaits pass (rows_of_each f js xs)) (sym (ids_from_start ids)) w
awaits_from f ids [] (suc k) pass w = w
awaits_from f ids (x ∷ xs) (suc k) pass w =
    subst (λ js. Awaits pass (rows_of_each f js (drop k xs))) (ids_further k ids)
    (awaits_from f (other_ids ids) xs k pass
    (awaits_last (f (first_id ids) x) w))

-- the rows of the item before a place, and those from there on
rows_before : {A : Type 0} (f : Option ℤ → A → List Row) (ids : Ids) (xs : List A) (k : ℕ) (x : A)
    (id : Option ℤ) → 0 < k → k ≤ length xs → x ≡ get_or xs (k - 1) x → id ≡ first_id (ids_from (k - 1) ids)
    → f id x ++ rows_from f ids xs k ≡ rows_from f ids xs (k - 1)
rows_before f ids xs k x id some within read eid =
    let next : k ≡ k - 1 + 1 = omega arith in
    (λ i. f (eid i) x ++ rows_from f ids xs (next i)) ∙ sym (each_next f ids xs (k - 1) x (omega arith) read)

-- at first no item is added
pub each_none : {A : Type 0} (f : Option ℤ → A → List Row) (ids : Ids) (xs : List A) (pass : RowPass)
    → Adds pass (rows_from f ids xs (length xs)) pass
each_none f ids xs pass = adds_same (adds_none pass)
    (ap (rows_of_each f (ids_from (length xs) ids)) (sym (drop_all (length xs) xs (omega arith))))

-- the item before a place may be added next
pub each_awaits : {A : Type 0} (f : Option ℤ → A → List Row) (ids : Ids) (xs : List A) (k : ℕ) (x : A)
    (id : Option ℤ) (old now : RowPass) → 0 < k → k ≤ length xs → x ≡ get_or xs (k - 1) x
    → id ≡ first_id (ids_from (k - 1) ids) → Awaits old (rows_of_each f ids xs)
    → Adds old (rows_from f ids xs k) now → Awaits now (f id x)
each_awaits f ids xs k x id old now some within read eid w added =
    awaits_first (f id x) (awaits_same (awaits_from f ids xs (k - 1) old w)
    (rows_before f ids xs k x id some within read eid)) added

-- the items from one place earlier on are added
pub each_more : {A : Type 0} (f : Option ℤ → A → List Row) (ids : Ids) (xs : List A) (k : ℕ) (x : A)
    (id : Option ℤ) (old now new : RowPass) → 0 < k → k ≤ length xs → x ≡ get_or xs (k - 1) x
    → id ≡ first_id (ids_from (k - 1) ids) → Adds old (rows_from f ids xs k) now
    → Adds now (f id x) new → Adds old (rows_from f ids xs (k - 1)) new
each_more f ids xs k x id old now new some within read eid last first =
    adds_same (adds_both last first) (rows_before f ids xs k x id some within read eid)

-- at the start all items are added
pub each_all : {A : Type 0} (f : Option ℤ → A → List Row) (ids : Ids) (xs : List A) (k : ℕ)
    (old now : RowPass) → k ≤ 0 → Adds old (rows_from f ids xs k) now → Adds old (rows_of_each f ids xs) now
each_all f ids xs k old now start added =
    let none : k ≡ 0 = omega arith in
    adds_same added (ap (rows_from f ids xs) none ∙ ap (λ js. rows_of_each f js xs) (ids_from_start ids))

-- ---- a geometry

-- a geometry's own row, and the rows under it
geometry_rows : (id : Option ℤ) (d : ℕ) (g : Tree) (r : Row) → r ≡ own_row id d g
    → r ∷ rows_under (d + 1) g ≡ rows_with id d g
geometry_rows id d g r e =
    let next : d + 1 ≡ suc d = omega arith in
    (λ i. e i ∷ rows_under (next i) g) ∙ sym (own_row_first id d g)

-- a geometry that may be added is no deeper than the cap
pub geometry_shallow : (id : Option ℤ) (d : ℕ) (g : Tree) (pass : RowPass) → Awaits pass (rows_with id d g)
    → d ≤ row_depth_cap
geometry_shallow id d g pass w =
    let own = awaits_same w (geometry_rows id d g (own_row id d g) refl) in
    omega (arith, own.fit.nested.0, own_row-depth id d g)

-- the rows under it may be added first
pub under_awaits : (id : Option ℤ) (d : ℕ) (g : Tree) (pass : RowPass) → Awaits pass (rows_with id d g)
    → Awaits pass (rows_under (d + 1) g)
under_awaits id d g pass w = awaits_last (own_row id d g ∷ [])
    (awaits_same w (geometry_rows id d g (own_row id d g) refl))

-- then its own row may be added
pub own_awaits : (id : Option ℤ) (d : ℕ) (g : Tree) (r : Row) (old now : RowPass) → r ≡ own_row id d g
    → Awaits old (rows_with id d g) → Adds old (rows_under (d + 1) g) now → Awaits now (r ∷ [])
own_awaits id d g r old now e w added =
    awaits_first (r ∷ []) (awaits_same w (geometry_rows id d g r e)) added

-- and then all its rows are added
pub geometry_added : (id : Option ℤ) (d : ℕ) (g : Tree) (r : Row) (old now new : RowPass) → r ≡ own_row id d g
    → Adds old (rows_under (d + 1) g) now → Adds now (r ∷ []) new → Adds old (rows_with id d g) new
geometry_added id d g r old now new e last first =
    adds_same (adds_both last first) (geometry_rows id d g r e)

-- the rows of members, as items
pub members_rows : (d : ℕ) (ids : Ids) (items gs : List Tree) → items ≡ gs
    → rows_of_each (λ id g. rows_with id d g) ids items ≡ member_rows d ids (trees gs)
members_rows d ids items gs are = member_rows_each d ids items ∙ ap (λ hs. member_rows d ids (trees hs)) are

-- ---- the length of a geometry's blob

-- a new pass awaits the rows of a valid geometry
pub awaits_all : (g : Tree) (pass : RowPass) → IsValid largest_limits g → IsBlankFrom 0 pass.depths
    → pass.tail ≡ tail_of [] → Awaits pass (rows 0 g)
awaits_all g pass valid blanks none = record {
  rest = [];
  stands = stands_none Full pass.depths pass.tail blanks none;
  fit = subst AreMeasurable (sym (append-nil (rows 0 g))) (measurable g valid);
}

-- after them the bytes at depth 0 are those of the blob
pub blob_is : (g : Tree) (old new : RowPass) (l : RowTotals) → IsValid largest_limits g
    → IsBlankFrom 0 old.depths → old.tail ≡ tail_of [] → Adds old (rows 0 g) new
    → l ≡ get_or new.depths 0 blank → l.bytes ≡ length (canonical_blob Full g)
blob_is g old new l valid blanks none added is =
    let fit = subst AreMeasurable (sym (append-nil (rows 0 g))) (measurable g valid) in
    let stands = added.stands [] (stands_none Full old.depths old.tail blanks none) fit in
    ap (λ (m : RowTotals). m.bytes) (is ∙ stands.totals_are 0 (omega arith)) ∙ totals_blob g valid.tree
