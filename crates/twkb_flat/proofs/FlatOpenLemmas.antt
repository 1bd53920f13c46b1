-- The row at a place, the open rows of a form, and a row that continues its geometry.
use mathlib.Core.List.{reverse_aux}
use Rattle.std.proofs.Common.{◌≡◌, ℕ, ◌+◌, ◌-◌, ◌<◌, ◌≤◌, List, [], ◌∷◌, ◌++◌, map, length, take, drop, get_or, refl}
use Rattle.std.proofs.Common.{sym, ap, ◌∙◌, subst, arith, eq-eqb, zero, suc, Bool, Option, Some, None}
use Rattle.std.specs.Prelude.{IsTrue, ◌↔◌, ◌==◌, slice_get, reverse, is_some}
use Rattle.std.proofs.lemmas.List.{length-map, length-append, length-drop, get_or-drop, get_or-map, take-append-drop}
use Rattle.std.proofs.lemmas.List.{take_at, drop_at, length-reverse}
use Rattle.std.proofs.lemmas.Option.{slice_get_read, slice_get_past}
use Rattle.std.proofs.lemmas.Bool.{eqb-true}
use Rattle.std.proofs.lemmas.Grind.{flat_map-append}
use Rattle.twkb_points.specs.Point.{Point}
use Rattle.twkb_tree.specs.Rows.{Row as TableRow, row_points, AreValidRowsOfOne}
use Rattle.twkb_tree.specs.Limits.{largest_limits}
use Rattle.twkb_tree.specs.Open.{ids_by, open_count, IsOpenAt}
use Rattle.twkb_flat.specs.declared.node.Row.{Row}
use Rattle.twkb_flat.specs.declared.kept_nodes.PlacedRow.{PlacedRow}
use Rattle.twkb_flat.specs.declared.kept_nodes.KeptNode.{KeptNode}
use Rattle.twkb_flat.specs.Rows.{row_with, row_depth_cap, depth_of, depths, levels, OpenPlace, MayFollow}
use Rattle.twkb_flat.specs.KeptNodes.{listed, Laid, placed_of, IsFlat, depths_in}
use Rattle.twkb_flat.specs.Taking.{IsAt}
use Rattle.twkb_flat.proofs.BuildLemmas.{no_deeper}
use Rattle.twkb_flat.proofs.LinkLemmas.{Here, row_at, flat_points, length-listed, depths-listed, last_depth}
use Rattle.twkb_flat.proofs.LastPoint.{open_there}
use Rattle.twkb_tree.specs.declared.limits.TheConstants.{NODES_CAP, POINTS_CAP}
use Rattle.twkb_tree.specs.Admits.{steps_to, parent, first_child, fits, Continues, IsOneRoot, geometry_rows}
use Rattle.twkb_tree.specs.Admits.{point_count}
use Rattle.twkb_tree.proofs.OpenLaws.{steps_within, point_count-reverse}
use Rattle.twkb_tree.proofs.LimitLaws.{continued, of_one, one_geometry_rows}
use Rattle.twkb_tree.proofs.RowLaws.{length-row_points}
use Rattle.twkb_tree.proofs.RowForest.{both_true}

-- ==== The row at a place, by its kept node.

-- the rows from a place on, by the kept node there
pub node_here : (es : List KeptNode) (ps : List Point) (i : ℕ) (e : KeptNode)
    → Laid 0 (map placed_of es) (length ps) → i < length es → e ≡ get_or es i e
    → Here 0 (map placed_of es) ps i e.placed
node_here es ps i e all_laid h is =
    let inside : i < length (map placed_of es) = rw length-map h in
    let laid : Laid 0 (map placed_of es) (0 + length ps) =
    subst (λ (n : ℕ). Laid 0 (map placed_of es) n) (omega arith) all_laid in
    let placed : get_or (map placed_of es) i e.placed ≡ e.placed = get_or-map placed_of es i e e.placed h
    ∙ sym (ap placed_of is) in
    subst (λ (s : PlacedRow). Here 0 (map placed_of es) ps i s) placed (row_at 0
    (map placed_of es) ps i e.placed laid inside)

-- there is one kept node for each row
pub length-rows : (es : List KeptNode) (ps : List Point) (rows : List TableRow)
    → listed (map placed_of es) ps ≡ rows → length rows ≡ length es
length-rows es ps rows view = ap length (sym view) ∙ length-listed (map placed_of es) ps ∙ length-map es placed_of

-- the row at a place is the first of the rows from there on
pub row_here : (es : List KeptNode) (ps : List Point) (i : ℕ) (e : KeptNode) (rows : List TableRow)
    (r : TableRow) (rest : List TableRow) → Laid 0 (map placed_of es) (length ps)
    → listed (map placed_of es) ps ≡ rows → i < length es → e ≡ get_or es i e → drop i rows ≡ r ∷ rest
    → row_with e.placed.row r.points ≡ r
row_here es ps i e rows r rest laid view h is at =
    let here = node_here es ps i e laid h is in
    let both : row_with e.placed.row here.own ∷ here.rest ≡ r ∷ rest = sym here.here ∙ ap (drop i) view ∙ at in
    let same : row_with e.placed.row here.own ≡ r = cc both in
    subst (λ (q : TableRow). row_with e.placed.row q.points ≡ q) same refl

-- the points of the row at a place
points_own : (es : List KeptNode) (ps : List Point) (i : ℕ) (e : KeptNode)
    → Laid 0 (map placed_of es) (length ps) → (h : Here 0 (map placed_of es) ps i e.placed)
    → (before : List Point) × (after : List Point) × (length before ≡ e.placed.first)
    × (before ++ (h.own ++ after) ≡ ps)
points_own es ps i e laid h =
    let rows = listed (map placed_of es) ps in (
      row_points (take i rows),
      row_points h.rest,
      omega (arith, h.first),
      ap (λ (q : List TableRow). row_points (take i (listed (map placed_of es) ps)) ++ row_points q) (sym h.here)
          ∙ sym (flat_map-append (λ (r : TableRow). r.points) (take i (listed (map placed_of es) ps))
          (drop i (listed (map placed_of es) ps)))
          ∙ ap row_points (take-append-drop i (listed (map placed_of es) ps))
          ∙ flat_points (map placed_of es) ps laid,
    )

-- the points of the row at a place are within all points
pub points_inside : (es : List KeptNode) (ps : List Point) (i : ℕ) (e : KeptNode)
    → Laid 0 (map placed_of es) (length ps) → i < length es → e ≡ get_or es i e
    → e.placed.first + e.placed.points ≤ length ps
points_inside es ps i e laid within is =
    let h = node_here es ps i e laid within is in
    let own = points_own es ps i e laid h in
    let own_list = h.own in
    omega (arith, own.2, h.count, ap length own.3, length-append own.0 (h.own ++ own.1), length-append h.own own.1)

-- a component of a list, cut out at its place
cut_out : (before own after ps : List Point) (first count : ℕ) → length before ≡ first
    → length own ≡ count → before ++ (own ++ after) ≡ ps → take count (drop first ps) ≡ own
cut_out before own after ps first count f n e =
    ap (λ (qs : List Point). take count (drop first qs)) (sym e)
    ∙ ap (take count) (drop_at before (own ++ after) first f) ∙ take_at own after count n

-- the points of the row at a place are those of the first row from there on
pub points_here : (es : List KeptNode) (ps : List Point) (i : ℕ) (e : KeptNode)
    (rows : List TableRow) (r : TableRow) (rest : List TableRow)
    → Laid 0 (map placed_of es) (length ps) → listed (map placed_of es) ps ≡ rows → i < length es
    → e ≡ get_or es i e → drop i rows ≡ r ∷ rest
    → take (e.placed.first + e.placed.points - e.placed.first) (drop e.placed.first ps) ≡ r.points
points_here es ps i e rows r rest laid view within is at =
    let h = node_here es ps i e laid within is in
    let own = points_own es ps i e laid h in
    let both : row_with e.placed.row h.own ∷ h.rest ≡ r ∷ rest = sym h.here ∙ ap (drop i) view ∙ at in
    let same : row_with e.placed.row h.own ≡ r = cc both in
    let count : length h.own ≡ e.placed.first + e.placed.points - e.placed.first = omega (arith, h.count) in
    cut_out own.0 h.own own.1 ps e.placed.first (e.placed.first + e.placed.points - e.placed.first) own.2
    count own.3 ∙ ap (λ (q : TableRow). q.points) same

-- no row is deeper than the cap
pub shallow_here : (es : List KeptNode) (ps : List Point) (i : ℕ) (e : KeptNode)
    (rows : List TableRow) → AreValidRowsOfOne largest_limits (listed (map placed_of es) ps)
    → Laid 0 (map placed_of es) (length ps) → i < length es → e ≡ get_or es i e
    → e.placed.row.depth ≤ row_depth_cap
shallow_here es ps i e rows v laid within is =
    let h = node_here es ps i e laid within is in
    let rows = listed (map placed_of es) ps in
    let split : take i rows ++ row_with e.placed.row h.own ∷ h.rest ≡ rows =
    ap (λ (q : List TableRow). take i (listed (map placed_of es) ps) ++ q) (sym h.here)
    ∙ take-append-drop i rows in
    no_deeper (take i rows) (row_with e.placed.row h.own) h.rest
    (subst (AreValidRowsOfOne largest_limits) (sym split) v)

-- ---- by the rows alone

-- the row there is at depth d exactly if the test of its depth passes
pub by_test : (rows : List TableRow) (i d k : ℕ) (r : TableRow) (rest : List TableRow)
    → drop i rows ≡ r ∷ rest → k ≡ r.depth → IsTrue (k == d) ↔ IsAt d (drop i rows)
by_test rows i d k r rest here e = (
  λ same. subst (IsAt d) (sym here) (sym e ∙ eqb-true k d same),
  λ at. eq-eqb k d (e ∙ subst (IsAt d) here at),
)

-- some rows are a first row and the others
first_of : (rows : List TableRow) → 0 < length rows → (r : TableRow) × (rest : List TableRow) × (rows ≡ r ∷ rest)
first_of [] h = absurd (omega arith)
first_of (r ∷ rest) h = (r, rest, refl)

-- the row at a place within the rows
pub some_at : (rows : List TableRow) (i : ℕ) → i < length rows → (r : TableRow)
    × (rest : List TableRow) × (drop i rows ≡ r ∷ rest)
some_at rows i h = first_of (drop i rows) (omega (arith, length-drop i rows))

-- the row read at a place is the first from there on
read_at : (rows : List TableRow) (i : ℕ) (r : TableRow) (rest : List TableRow) → drop i rows ≡ r ∷ rest
    → get_or rows i r ≡ r
read_at rows i r rest e =
    let place : i + 0 ≡ i = omega arith in
    sym (ap (λ (k : ℕ). get_or rows k r) place) ∙ sym (get_or-drop i rows 0 r)
    ∙ ap (λ (rs : List TableRow). get_or rs 0 r) e

-- the row at a place, from the facts about it and its points
pub row_got : (rows : List TableRow) (i : ℕ) (row : Row) (own : List Point) → i < length rows
    → ((r : TableRow) (rest : List TableRow) → drop i rows ≡ r ∷ rest → row_with row r.points ≡ r)
    → ((r : TableRow) (rest : List TableRow) → drop i rows ≡ r ∷ rest → own ≡ r.points)
    → slice_get rows i ≡ Some (row_with row own)
row_got rows i row own within whole points =
    let found = some_at rows i within in
    let same : row_with row own ≡ found.0 = ap (row_with row) (points found.0 found.1 found.2)
    ∙ whole found.0 found.1 found.2 in
    slice_get_read rows (length rows) i found.0 refl within (sym (read_at rows i found.0 found.1 found.2))
    ∙ ap (λ (r : TableRow). Some r) (sym same)

-- ==== The open rows of a form, by its kept nodes.

-- ---- the number of open rows

-- the last row gives the number of open rows
count_onto : (r : TableRow) (rest before : List TableRow)
    → open_count (reverse_aux (r ∷ rest) before) ≡ levels (depths (r ∷ rest))
count_onto r [] before = omega arith
count_onto r (s ∷ rest) before = count_onto s rest (r ∷ before)

-- the number of open rows is the number of levels
pub open_levels : (rows : List TableRow) → open_count (reverse rows) ≡ levels (depths rows)
open_levels [] = refl
open_levels (r ∷ rest) = count_onto r rest []

-- the kept nodes give the number of open rows
pub flat_levels : (es : List KeptNode) (ps : List Point) (rows : List TableRow)
    → listed (map placed_of es) ps ≡ rows → open_count (reverse rows) ≡ levels (depths_in es)
flat_levels es ps rows view = open_levels rows
    ∙ (ap (λ (rs : List TableRow). levels (depths rs)) (sym view)
    ∙ ap levels (depths-listed (map placed_of es) ps))

-- ---- one open row

-- whether the row of a kept node has an id
pub ids_there : (es : List KeptNode) (ps : List Point) (i : ℕ) (blank : KeptNode) → i < length es
    → Some (is_some (get_or es i blank).placed.row.id) ≡ ids_by
    (slice_get (listed (map placed_of es) ps) i)
ids_there [] ps i blank h = absurd (omega arith)
ids_there (e ∷ es) ps zero blank h = refl
ids_there (e ∷ es) ps (suc i) blank h = ids_there es (drop e.placed.points ps) i blank (omega arith)

-- there is no id after the last kept node
pub no_ids : (es : List KeptNode) (ps : List Point) (i : ℕ) → i ≡ length es
    → None ≡ ids_by (slice_get (listed (map placed_of es) ps) i)
no_ids es ps i end = sym (ap ids_by (slice_get_past (listed (map placed_of es) ps) i
    (omega (arith, end, length-listed (map placed_of es) ps, length-map es placed_of))))

-- the row of a kept node
row_there : (es : List KeptNode) (ps : List Point) (i : ℕ) (blank : KeptNode) → i < length es
    → (own : List Point) × (slice_get (listed (map placed_of es) ps) i ≡ Some
    (row_with (get_or es i blank).placed.row own))
row_there [] ps i blank h = absurd (omega arith)
row_there (e ∷ es) ps zero blank h = (_, refl)
row_there (e ∷ es) ps (suc i) blank h = row_there es (drop e.placed.points ps) i blank (omega arith)

-- the test of a row sees this of the open row
pub row_open : (es : List KeptNode) (ps : List Point) (rows : List TableRow) (d at : ℕ)
    (e : KeptNode) (ids : Option Bool) → IsFlat es ps → listed (map placed_of es) ps ≡ rows
    → OpenPlace (depths_in es) d at → e ≡ get_or es at e
    → ids ≡ ids_by (slice_get (listed (map placed_of es) ps) (at + 1))
    → IsOpenAt d (reverse rows) (record { kind = e.placed.row.kind; child_ids = ids })
row_open es ps rows d at e ids flat view place is ids_are =
    let within : at < length es = omega (
      arith,
      place.within,
      length-map es placed_of,
      length-map (map placed_of es) (λ (s : PlacedRow). s.row.depth),
    ) in
    let here = row_there es ps at e within in
    let kind : e.placed.row.kind ≡ (get_or es at e).placed.row.kind = ap (λ (f : KeptNode). f.placed.row.kind) is in
    let same = sym (depths-listed (map placed_of es) ps) in
    subst (λ (rs : List TableRow). IsOpenAt d (reverse rs) (record { kind = e.placed.row.kind; child_ids = ids })) view
    (open_there at d (listed (map placed_of es) ps) (row_with (get_or es at e).placed.row here.0)
    (record { kind = e.placed.row.kind; child_ids = ids })
    (subst (λ (ds : List ℕ). OpenPlace ds d at) same place)
    (subst (λ (ds : List ℕ). (i : ℕ) → i + 1 < length ds
    → get_or ds (i + 1) 0 ≤ get_or ds i 0 + 1) same flat.linked.steps) here.1 kind ids_are)

-- ---- the last open row

-- the row at the last place gives the number of open rows
pub last_level : (rows : List TableRow) (i : ℕ) (row : Row) → i + 1 ≡ length rows
    → ((r : TableRow) (rest : List TableRow) → drop i rows ≡ r ∷ rest → row_with row r.points ≡ r)
    → row.depth + 1 ≡ open_count (reverse rows)
last_level rows i row last whole =
    let found = some_at rows i (omega (arith, last)) in
    let same : row.depth ≡ found.0.depth = ap (λ (r : TableRow). r.depth) (whole found.0 found.1 found.2) in
    let here : get_or (depths rows) i 0 ≡ found.0.depth = get_or-map depth_of rows i found.0 0
    (omega (arith, last)) ∙ ap depth_of (read_at rows i found.0 found.1 found.2) in
    let end = last_depth (depths rows) i (last ∙ sym (length-map rows depth_of)) in
    omega (arith, open_levels rows, end, here, same)

-- ==== What is true of a row that continues the geometry of the rows so far.

-- the row continues the geometry of these rows
pub record GoesOn (rows : List TableRow) (r : TableRow) : Type 0 where
  pub valid : AreValidRowsOfOne largest_limits (rows ++ r ∷ [])
  pub place : MayFollow (depths rows) r.depth
  pub nodes : length rows < NODES_CAP
  pub most : length (row_points rows) + length r.points ≤ POINTS_CAP

-- no root comes after another row
no_root : (rows : List TableRow) (r : TableRow) → IsOneRoot rows r → 0 < length rows → 0 < r.depth
no_root [] r h some = absurd (omega arith)
no_root (s ∷ rows) r h some = h

-- what a row that continues the geometry is
pub goes_on : (rows : List TableRow) (r : TableRow) → AreValidRowsOfOne largest_limits rows
    → Continues largest_limits rows r → GoesOn rows r
goes_on rows r v h =
    let one = of_one largest_limits rows v in
    let steps = (both_true (steps_to r.depth (reverse rows))
    (fits (parent r.depth (reverse rows)) (first_child r.depth (reverse rows)) r)
    h.0.admitted).0 in
    let counted = one_geometry_rows rows r one h.1 in
    let few : length (geometry_rows r.depth (reverse rows)) < NODES_CAP = h.0.nodes in
    let room_left : point_count (geometry_rows r.depth (reverse rows)) + length r.points ≤ POINTS_CAP = h.0.points in
    let all : length (geometry_rows r.depth (reverse rows)) ≡ length rows = ap (λ xs. length xs)
    counted ∙ length-reverse rows in
    let points : point_count (geometry_rows r.depth (reverse rows)) ≡ length (row_points rows) =
    ap point_count counted ∙ point_count-reverse rows ∙ sym (length-row_points rows) in
    record {
      valid = continued largest_limits rows r v h;
      place = record {
        step = omega (arith, steps_within r.depth (reverse rows) steps, open_levels rows);
        below = λ some. no_root rows r h.1 (omega (arith, some, length-map rows depth_of));
      };
      nodes = omega (arith, few, all);
      most = omega (arith, room_left, points);
    }
