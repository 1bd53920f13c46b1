-- The state of a reader that keeps an outline and rows, which are those of a valid geometry.
use Rattle.std.proofs.Common.{◌≡◌, ℕ, zero, suc, ◌-◌, Bool, true, false, List, [], ◌∷◌, ◌++◌, length, refl, sym, ◌∙◌}
use Rattle.std.proofs.Common.{ap, append_assoc, append-nil, Option, Some, None, ◌+◌, subst, length-append, arith, inl}
use Rattle.std.proofs.Common.{inr, ◌≤◌}
use Rattle.std.specs.Prelude.{ℤ, map, if◌then◌else◌, Ok, reverse, ◌⊎◌, ◌&&◌, ◌≢◌, Result, Err}
use Rattle.std.proofs.lemmas.List.{length-map}
use Rattle.twkb_num.specs.Spelling.{unzigzag_of}
use Rattle.twkb_points.specs.Point.{Point, origin, IsInRange}
use Rattle.twkb_tree.specs.Tree.{Ids, Tree, Trees, end, ◌▷◌, collection}
use Rattle.twkb_tree.specs.Rows.{Row, whole_row, first_id, other_ids, rows_with, member_rows, rows, plain_row}
use Rattle.twkb_tree.specs.Rows.{rows_of_each, ring_rows, polygon_rows, AreValidRowsOfOne}
use Rattle.twkb_tree.specs.declared.kind.Kind.TheVariants as kinds
use Rattle.twkb_tree.specs.Limits.{Allowance, IsValid, IsAllowance, largest_limits}
use Rattle.twkb_tree.specs.Admits.{steps_to, parent, first_child, Accepts, IsOneRoot, Continues}
use Rattle.twkb_tree.specs.RowGrowth.{with_point, point_added, EndsInLine}
use Rattle.twkb_tree.specs.declared.kind.Kind as row
use Rattle.twkb_tree.proofs.PointMore.{point_last, fits_same}
use Rattle.twkb_tree.proofs.LimitLaws.{continued, continues_row, one_valid_front, continues_largest}
use Rattle.twkb_grammar.specs.Bits.{bit}
use Rattle.twkb_grammar.specs.Roles.{Role, Extended, Size, Count, End, Item, IsNumber}
use Rattle.twkb_grammar.specs.Reading.{is_exact, objection, past_end, ends, Ran, Reached, Gives, Landed, Leads}
use Rattle.twkb_grammar.specs.Machine.{top, Want, PointForm, LineForm, PolygonForm, MultiPointForm, MultiLineForm}
use Rattle.twkb_grammar.specs.Machine.{MultiPolygonForm, Kind, SimpleKind, CollectionKind, Head, Frame, snoc, Many}
use Rattle.twkb_grammar.specs.Machine.{ManyPoints, ManyLines, ManyPolygons, ManyGeometries, Phase, AtHeader, AtMetadata}
use Rattle.twkb_grammar.specs.Machine.{AtOption, AtCount, AtId, AtBody, AtEnd, Finished, Stack, begun, empty_of}
use Rattle.twkb_grammar.specs.Machine.{wanting, asked, with_option, members_begin, counted, ended, advanced, Around}
use Rattle.twkb_grammar.specs.Machine.{within, WantY, BodyForm, depth_of, Sums, nothing, added, sums_after}
use Rattle.twkb_grammar.specs.Machine.{started, stack_after, Runs, first_count, role_at}
use Rattle.twkb_grammar.specs.Fault.{moved, Reason, Truncated, BadVarint, FirstFault, IsPart, IsCut, IsTooLong}
use Rattle.twkb_grammar.specs.Fault.{SizeMismatch}
use Rattle.twkb_grammar.specs.Items.{Blob}
use Rattle.twkb_grammar.specs.Noting.{Notes, no_notes, noted, noted_by}
use Rattle.twkb_grammar.proofs.Parts.{run_on, reached_depth}
use Rattle.twkb_grammar.proofs.Trees.{tree_runs}
use Rattle.twkb_tree.proofs.RowLaws.{all_apart}
use Rattle.twkb_grammar.proofs.Running.{ran_part, reached_nothing, reached_bytes, reached_on, landed, leads}
use Rattle.twkb_grammar.proofs.Running.{reached_blob, reached_cut, reached_long, reached_end}
use Rattle.twkb_grammar.proofs.NotedSpans.{noted-append}
use Rattle.twkb_grammar.proofs.OneFault.{reached_part, NoEnd, no_size_wrong}
use Rattle.twkb_body.specs.Outline.{ids_after, frame_outline, stage_of, outline_of, ids_behind, body_stage, OnHeader}
use Rattle.twkb_body.specs.Outline.{OnFinished, Outline, outline_role, outline_in, outline_ends, FrameOutline}
use Rattle.twkb_body.specs.Growing.{id_within, frame_rows, phase_rows, rows_so_far, Nothing, NewRow, applied, own_of}
use Rattle.twkb_body.specs.Growing.{header_change, kind_with, count_change, stage_change, id_in, change_of}
use Rattle.twkb_body.specs.Growing.{value_rows, cut_before, Change, NewPoint, Takes}
use Rattle.twkb_body.specs.Reading.{NotedOutline, notes_in, Outlined, outline_after, change_after, OutlineLanded}
use Rattle.twkb_body.specs.Reading.{StageFits}
use Rattle.twkb_body.proofs.Outlines.{body_grows, lefts_fit, one_behind, each-snoc, ring-snoc, area_ring}
use Rattle.twkb_body.proofs.Outlines.{outline_steps, outline_at_ends}

-- ==== The rows of a stack after an item, and after the ends of geometries.

-- ---- headers

first_row : (front : List Row) (r : Row) → front ++ r ∷ [] ≡ (front ++ []) ++ r ∷ []
first_row front r = ap (λ rs. rs ++ r ∷ []) (sym (append-nil front))

empty_rows : (d : ℕ) (id : Option ℤ) (k : Kind) (precision : ℤ)
    → rows_with id d (empty_of k precision) ≡ own_of d id k precision ∷ []
empty_rows d id (SimpleKind PointForm) precision = refl
empty_rows d id _ precision = refl

begun_rows : (d : ℕ) (id : Option ℤ) (k : Kind) (h : Head) → phase_rows d id (begun k h) ≡ []
begun_rows d id (SimpleKind PointForm) h = refl
begun_rows d id _ h = refl

wanting_rows : (front : List Row) (d : ℕ) (id : Option ℤ) (k : Kind) (h : Head) (rs : List Role)
    → front ++ phase_rows d id (wanting k h rs) ≡ applied
    (header_change d id k h.precision h.meta rs) (front ++ [])
wanting_rows front d id k h (r ∷ rs) = refl
wanting_rows front d id k h [] = go (bit h.meta 4)
  where
    go : (b : Bool) → front ++ phase_rows d id (if b then AtEnd h (empty_of k h.precision) else
        begun k h) ≡ applied (if b then NewRow (own_of d id k h.precision) else Nothing)
        (front ++ [])
    go true = ap (λ rs. front ++ rs) (empty_rows d id k h.precision) ∙ first_row front (own_of d id k h.precision)
    go false = ap (λ rs. front ++ rs) (begun_rows d id k h)

-- an optional part leaves precision and metadata byte unchanged
option_rows : (front : List Row) (d : ℕ) (id : Option ℤ) (k : Kind) (h : Head) (r : Role)
    (rs : List Role) (n bytes : ℕ) → front ++ phase_rows d id
    (wanting k (with_option h r n bytes) rs) ≡ applied (header_change d id k h.precision h.meta rs)
    (front ++ [])
option_rows front d id k h Extended rs n bytes = wanting_rows front d id k (with_option h Extended n bytes) rs
option_rows front d id k h Size rs n bytes = wanting_rows front d id k (with_option h Size n bytes) rs
option_rows front d id k h _ rs n bytes = wanting_rows front d id k h rs

-- ---- members

-- the rows when members begin
members_rows : (p : Point) (m : Many) (h : Head) (fs : List Frame) (ids : Ids) (n : ℕ)
    → rows_so_far (members_begin m h fs ids n) ≡ (frame_rows fs ++ []) ++ own_of (length fs)
    (id_within fs) (kind_with m) h.precision ∷ []
members_rows p ManyPoints h fs ids n = body_grows (frame_rows fs) (length fs) (id_within fs) h ids p
    n MultiPointForm (Want 1 top)
members_rows p ManyLines h fs ids n = body_grows (frame_rows fs) (length fs) (id_within fs) h ids p
    n MultiLineForm (Want 2 top)
members_rows p ManyPolygons h fs ids n = body_grows (frame_rows fs) (length fs) (id_within fs) h ids
    p n MultiPolygonForm (Want 3 top)
members_rows p ManyGeometries h fs ids zero = first_row (frame_rows fs)
    (own_of (length fs) (id_within fs) CollectionKind h.precision)
members_rows p ManyGeometries h fs ids (suc n) =
    let r = own_of (length fs) (id_within fs) CollectionKind h.precision in
    append-nil (frame_rows fs ++ r ∷ []) ∙ first_row (frame_rows fs) r

counted_rows : (p : Point) (m : Many) (h : Head) (fs : List Frame) (n : ℕ)
    → rows_so_far (counted m h fs n) ≡ applied (count_change (length fs) (id_within fs) m h n)
    (frame_rows fs ++ [])
counted_rows p m h fs zero = members_rows p m h fs None 0
counted_rows p m h fs (suc n) = go (bit h.meta 2)
  where
    go : (b : Bool) → rows_so_far (if b then (fs, AtId m h (suc n) [] n) else members_begin m h fs
        None (suc n)) ≡ applied (if b then Nothing else NewRow
        (own_of (length fs) (id_within fs) (kind_with m) h.precision)) (frame_rows fs ++ [])
    go true = refl
    go false = members_rows p m h fs None (suc n)

-- ---- ends

-- the rows of one more member
member-snoc : (d : ℕ) (ids : Ids) (gs : Trees) (g : Tree)
    → member_rows d ids (snoc gs g) ≡ member_rows d ids gs ++ rows_with
    (first_id (ids_after ids gs)) d g
member-snoc d ids end g = append-nil (rows_with (first_id ids) d g)
member-snoc d ids (k ▷ gs) g = ap (λ rs. rows_with (first_id ids) d k ++ rs)
    (member-snoc d (other_ids ids) gs g) ∙ sym (append_assoc (rows_with (first_id ids) d k)
    (member_rows d (other_ids ids) gs) (rows_with (first_id (ids_after (other_ids ids) gs)) d g))

-- the rows of a collection after a member ends
member_ends : (fs : List Frame) (h : Head) (ids : Ids) (done : Trees) (g : Tree) →
    frame_rows fs ++ (whole_row (length fs) kinds.Collection (id_within fs) h.precision []
    ∷ member_rows (suc (length fs)) ids (snoc done g))
    ≡ (frame_rows fs ++ (whole_row (length fs) kinds.Collection (id_within fs) h.precision []
    ∷ member_rows (suc (length fs)) ids done)) ++ rows_with (first_id (ids_after ids done))
    (suc (length fs)) g
member_ends fs h ids done g =
    let o = whole_row (length fs) kinds.Collection (id_within fs) h.precision [] in
    ap (λ rs. frame_rows fs ++ (o ∷ rs)) (member-snoc (suc (length fs)) ids done g)
    ∙ sym (append_assoc (frame_rows fs) (o ∷ member_rows (suc (length fs)) ids done)
    (rows_with (first_id (ids_after ids done)) (suc (length fs)) g))

ended_rows : (fs : List Frame) (g : Tree) → rows_so_far (ended fs g) ≡ frame_rows fs ++ rows_with
    (id_within fs) (length fs) g
ended_rows [] g = refl
ended_rows (f ∷ fs) g = go f.left
  where
    go : (n : ℕ) → rows_so_far
        (ended (record { head = f.head; ids = f.ids; done = f.done; left = n } ∷ fs) g) ≡ frame_rows
        (f ∷ fs) ++ rows_with (id_within (f ∷ fs)) (length (f ∷ fs)) g
    go zero = member_ends fs f.head f.ids f.done g
    go (suc n) = append-nil _ ∙ member_ends fs f.head f.ids f.done g

past_end_rows : (exact : Bool) (bytes : ℕ) (g : Tree) (fs : List Frame) (st : Stack)
    → past_end exact bytes g fs ≡ Ok st → rows_so_far st ≡ frame_rows fs ++ rows_with (id_within fs)
    (length fs) g
past_end_rows false bytes g fs st e = absurd cc
past_end_rows true bytes g [] st e = let same : ([], Finished g) ≡ st = cc in ap rows_so_far (sym same)
past_end_rows true bytes g (f ∷ fs) st e = go f.left
    (past_end_rows (is_exact f.head.size (bytes - f.head.from)) bytes
    (collection f.head.precision f.ids (snoc f.done g)) fs st) e
  where
    go : (n : ℕ) → (past_end (is_exact f.head.size (bytes - f.head.from)) bytes
        (collection f.head.precision f.ids (snoc f.done g)) fs ≡ Ok st
        → rows_so_far st ≡ frame_rows fs ++ rows_with (id_within fs) (length fs)
        (collection f.head.precision f.ids (snoc f.done g)))
        → past_end true bytes g (record { head = f.head; ids = f.ids; done = f.done; left = n }
        ∷ fs) ≡ Ok st → rows_so_far st ≡ frame_rows (f ∷ fs) ++ rows_with (id_within (f ∷ fs))
        (length (f ∷ fs)) g
    go zero below e = below e ∙ member_ends fs f.head f.ids f.done g
    go (suc n) below e =
        let next : Stack = (record { head = f.head; ids = f.ids; done = snoc f.done g; left = n } ∷ fs, AtHeader) in
        let same : next ≡ st = cc in
        ap rows_so_far (sym same) ∙ (append-nil _ ∙ member_ends fs f.head f.ids f.done g)

-- the ends change no row
pub rows_at_ends : (bytes : ℕ) (fs : List Frame) (ph : Phase) (st : Stack)
    → ends bytes fs ph ≡ Ok st → rows_so_far st ≡ rows_so_far (fs, ph)
rows_at_ends bytes fs (AtEnd h g) st e = past_end_rows (is_exact h.size (bytes - h.from)) bytes g fs st e
rows_at_ends bytes fs ph st e = let same : (fs, ph) ≡ st = cc in ap rows_so_far (sym same)

-- ---- items

-- the change of each item, by the stack
pub item_grows : (p : Point) (bytes n : ℕ) (fs : List Frame) (ph : Phase)
    → rows_so_far (advanced p bytes n fs ph) ≡ applied
    (stage_change p n (length fs) (id_within fs) (stage_of ph)) (rows_so_far (fs, ph))
item_grows p bytes n fs (AtMetadata k precision) = wanting_rows (frame_rows fs) (length fs)
    (id_within fs) k (record { precision = precision; meta = n; size = None; from = bytes })
    (asked n)
item_grows p bytes n fs (AtOption k h r rs) = option_rows (frame_rows fs) (length fs) (id_within fs) k h r rs n bytes
item_grows p bytes n fs (AtCount m h) = counted_rows p m h fs n
item_grows p bytes n fs (AtId m h members ids zero) = members_rows p m h fs (Some (ids ++ unzigzag_of n ∷ [])) members
item_grows p bytes n fs (AtBody h f ids b) = body_grows (frame_rows fs) (length fs) (id_within fs) h ids p n f b
item_grows p bytes n fs (AtEnd h g) = ended_rows fs g
item_grows p bytes n fs _ = refl

-- the id of the open geometry is determined by the outline
pub same_id : (fs : List Frame) → id_in (map frame_outline fs) ≡ id_within fs
same_id [] = refl
same_id (f ∷ fs) = refl

-- the change is determined by the outline
pub change_same : (p : Point) (n : ℕ) (fs : List Frame) (ph : Phase)
    → stage_change p n (length fs) (id_within fs) (stage_of ph) ≡ change_of p n (outline_of (fs, ph))
change_same p n fs ph =
    ap (λ d. stage_change p n d (id_within fs) (stage_of ph)) (sym (length-map fs frame_outline))
    ∙ ap (λ id. stage_change p n (length (map frame_outline fs)) id (stage_of ph)) (sym (same_id fs))

-- the change of each item, by the outline
pub stack_grows : (p : Point) (bytes n : ℕ) (fs : List Frame) (ph : Phase)
    → rows_so_far (advanced p bytes n fs ph) ≡ applied (change_of p n (outline_of (fs, ph)))
    (rows_so_far (fs, ph))
stack_grows p bytes n fs ph = item_grows p bytes n fs ph
    ∙ ap (λ c. applied c (rows_so_far (fs, ph))) (change_same p n fs ph)

-- ==== The rows of each stack that is reached are those of a valid geometry.

-- ---- a line with one point less

accepts_fewer : (l : Allowance) (before : List Row) (r : Row) (q : Point)
    → (r.kind ≡ kinds.Linestring) ⊎ (r.kind ≡ kinds.Ring) → Accepts l before (with_point r q)
    → Accepts l before r
accepts_fewer l before r q line a = record {
  admitted = ap (λ b. steps_to r.depth before && b)
      (fits_same (parent r.depth before) (first_child r.depth before) r q line) ∙ a.admitted;
  nest = a.nest;
  nodes = a.nodes;
  in_range = (all_apart IsInRange r.points (q ∷ []) a.in_range).0;
  points = omega (arith, a.points, length-append r.points (q ∷ []));
}

root_same : (rs : List Row) (r : Row) (q : Point) → IsOneRoot rs (with_point r q) → IsOneRoot rs r
root_same [] r q h = h
root_same (s ∷ rs) r q h = h

fewer : (l : Allowance) (rs : List Row) (q : Point) → EndsInLine rs
    → AreValidRowsOfOne l (point_added q rs) → AreValidRowsOfOne l rs
fewer l rs q e v =
    let more : AreValidRowsOfOne l (e.front ++ with_point e.last q ∷ []) =
    subst (AreValidRowsOfOne l) (ap (point_added q) e.whole ∙ point_last q e.front e.last) v in
    let front = one_valid_front l e.front (with_point e.last q ∷ []) more in
    let c = continues_row l e.front (with_point e.last q) more in
    subst (AreValidRowsOfOne l) (sym e.whole) (continued l e.front e.last front
    (accepts_fewer l (reverse e.front) e.last q e.line c.0, root_same e.front e.last q c.1))

-- rows before a change are valid if those after it are
before_change : (l : Allowance) (c : Change) (rs : List Row) → Takes c rs
    → AreValidRowsOfOne l (applied c rs) → AreValidRowsOfOne l rs
before_change l Nothing rs t v = v
before_change l (NewRow r) rs t v = one_valid_front l rs (r ∷ []) v
before_change l (NewPoint p) rs t v = fewer l rs p t v

-- ---- a point is only added to a line

if_takes : (b : Bool) (r : Row) (rs : List Row) → Takes (if b then NewRow r else Nothing) rs
if_takes true r rs = tt
if_takes false r rs = tt

if_takes_not : (b : Bool) (r : Row) (rs : List Row) → Takes (if b then Nothing else NewRow r) rs
if_takes_not true r rs = tt
if_takes_not false r rs = tt

header_takes : (d : ℕ) (id : Option ℤ) (k : Kind) (precision : ℤ) (meta : ℕ) (parts : List Role)
    (rs : List Row) → Takes (header_change d id k precision meta parts) rs
header_takes d id k precision meta (r ∷ parts) rs = tt
header_takes d id k precision meta [] rs = if_takes (bit meta 4) (own_of d id k precision) rs

count_takes : (d : ℕ) (id : Option ℤ) (m : Many) (h : Head) (n : ℕ) (rs : List Row) → Takes (count_change d id m h n) rs
count_takes d id m h zero rs = tt
count_takes d id m h (suc n) rs = if_takes_not (bit h.meta 2) (own_of d id (kind_with m) h.precision) rs

line_below : (front : List Row) (o : Row) (others rs : List Row) (r : Row) → rs ≡ others ++ r ∷ []
    → (r.kind ≡ kinds.Linestring) ⊎ (r.kind ≡ kinds.Ring) → EndsInLine (front ++ (o ∷ rs))
line_below front o others rs r e line = record {
  front = front ++ (o ∷ others);
  last = r;
  line = line;
  whole = ap (λ l. front ++ (o ∷ l)) e ∙ one_behind front o others r;
}

module _ (front : List Row) (d : ℕ) (id : Option ℤ) (h : Head) (ids : Ids) where
  abbrev own : row.Kind → Row
  own kind = whole_row d kind id h.precision []

  abbrev line_rows : Option ℤ → List Point → List Row
  line_rows id ps = plain_row (suc d) kinds.Linestring id ps ∷ []

  point_takes : (p : Point) (n : ℕ) (f : BodyForm) (a : Around (depth_of f) 0)
      → Takes (stage_change p n d id (body_stage h f ids (WantY a)))
      (front ++ value_rows d id h f ids (cut_before a))
  point_takes p n LineForm (within ps left top) =
      record {
        front = front;
        last = whole_row d kinds.Linestring id h.precision ps;
        line = inl refl;
        whole = refl;
      }
  point_takes p n PolygonForm (within ps left (within rings more top)) = line_below front
      (own kinds.Polygon) (ring_rows (suc d) rings) _ (plain_row (suc d) kinds.Ring None ps)
      (ring-snoc (suc d) rings ps) (inr refl)
  point_takes p n MultiLineForm (within ps left (within lines more top)) = line_below front
      (own kinds.MultiLinestring) (rows_of_each line_rows ids lines) _
      (plain_row (suc d) kinds.Linestring (first_id (ids_behind ids lines)) ps)
      (each-snoc line_rows ids lines ps) (inl refl)
  point_takes p n MultiPolygonForm (within ps left (within rings more (within areas most top))) =
      line_below front (own kinds.MultiPolygon) (rows_of_each (polygon_rows (suc d)) ids
      (areas ++ rings ∷ [])) _ (plain_row (suc (suc d)) kinds.Ring None ps)
      (area_ring (suc d) ids areas rings ps) (inr refl)
  point_takes p n PointForm a = tt
  point_takes p n MultiPointForm a = tt
  point_takes p n f a = absurd (omega (arith, lefts_fit a))

pub item_takes : (p : Point) (n : ℕ) (fs : List Frame) (ph : Phase)
    → Takes (stage_change p n (length fs) (id_within fs) (stage_of ph)) (rows_so_far (fs, ph))
item_takes p n fs (AtMetadata k precision) = header_takes (length fs) (id_within fs) k precision n
    (asked n) (rows_so_far (fs, AtMetadata k precision))
item_takes p n fs (AtOption k h r rs) = header_takes (length fs) (id_within fs) k h.precision h.meta
    rs (rows_so_far (fs, AtOption k h r rs))
item_takes p n fs (AtCount m h) = count_takes (length fs) (id_within fs) m h n (rows_so_far (fs, AtCount m h))
item_takes p n fs (AtId m h members ids zero) = tt
item_takes p n fs (AtBody h f ids (Want zero a)) = tt
item_takes p n fs (AtBody h f ids (WantY a)) = point_takes (frame_rows fs) (length fs) (id_within fs) h ids p n f a
item_takes p n fs _ = tt

-- ---- runs

-- rows before an item are valid if those after it are
before_item : (l : Allowance) (p : Point) (bytes n : ℕ) (fs : List Frame) (ph : Phase)
    → AreValidRowsOfOne l (rows_so_far (advanced p bytes n fs ph))
    → AreValidRowsOfOne l (rows_so_far (fs, ph))
before_item l p bytes n fs ph v =
    before_change l (stage_change p n (length fs) (id_within fs) (stage_of ph)) (rows_so_far (fs, ph))
    (item_takes p n fs ph) (subst (AreValidRowsOfOne l) (item_grows p bytes n fs ph) v)

-- rows before a run are valid if those after it are
before_run : (l : Allowance) (is : List Item) (e : Sums) (st last : Stack) → Runs e st is last
    → AreValidRowsOfOne l (rows_so_far last) → AreValidRowsOfOne l (rows_so_far st)
before_run l [] e st last r v = subst (λ s. AreValidRowsOfOne l (rows_so_far s)) (sym r) v
before_run l (i ∷ is) e st last r v =
    before_item l (moved e.position i.role i.number) (e.bytes + length i.bytes) i.number st.0 st.1
    (before_run l is (added e i) (stack_after e i st) last r.2 v)

-- the rows of a geometry
whole_rows : (l : Allowance) (g : Tree) → IsValid l g → (rs : List Row) → rows 0 g ≡ rs → AreValidRowsOfOne l rs
whole_rows l g v [] e = tt
whole_rows l g v (r ∷ rs) e = (g, v, e)

pub ran_valid : (l : Allowance) (is : List Item) (st : Stack) → Ran l is st → AreValidRowsOfOne l (rows_so_far st)
ran_valid l is st r =
    let part = ran_part l is st r in
    before_run l part.more (sums_after nothing is) st ([], Finished part.tree)
    (run_on is part.more st ([], Finished part.tree)
    (tree_runs part.tree [] nothing (is ++ part.more) part.valid.tree part.items) r.runs)
    (whole_rows l part.tree part.valid (rows 0 part.tree) refl)

-- the rows of a reader's state are valid
pub reached_valid : (l : Allowance) (bytes : List ℕ) (e : Sums) (st : Stack) → Reached l bytes e st
    → AreValidRowsOfOne l (rows_so_far st)
reached_valid l bytes e st r = ran_valid l r.items st r.ran

-- the change that the outline determines is one that the rows can take
pub stack_takes : (p : Point) (n : ℕ) (fs : List Frame) (ph : Phase)
    → Takes (change_of p n (outline_of (fs, ph))) (rows_so_far (fs, ph))
stack_takes p n fs ph = subst (λ c. Takes c (rows_so_far (fs, ph))) (change_same p n fs ph) (item_takes p n fs ph)

-- ==== The state of a reader that keeps an outline and rows.

-- ---- the role

same_stage_role : (e : Sums) (fs : List Frame) (ph : Phase) → role_at e (fs, ph) ≡ outline_role e (outline_of (fs, ph))
same_stage_role e fs (AtCount m h) = ap (λ n. Some (Count (first_count m n))) (sym (length-map fs frame_outline))
same_stage_role e fs (AtBody h f ids (Want zero a)) = refl
same_stage_role e fs _ = refl

pub same_role : (e : Sums) (st : Stack) → role_at e st ≡ outline_role e (outline_of st)
same_role e st = same_stage_role e st.0 st.1

module _ (limits : Allowance) where
  -- a geometry that is valid within some limits is valid within the largest
  valid_largest : (g : Tree) → IsAllowance limits → IsValid limits g → IsValid largest_limits g
  valid_largest g a v = record {
    tree = v.tree;
    in_range = v.in_range;
    nest_kept = (let n = v.nest_kept in let c = a.nest_cap in omega (arith, n, c));
    nodes_kept = (let n = v.nodes_kept in let c = a.nodes_cap in omega (arith, n, c));
    points_kept = (let n = v.points_kept in let c = a.points_cap in omega (arith, n, c));
  }

  rows_largest : (rs : List Row) → IsAllowance limits → AreValidRowsOfOne limits rs
      → AreValidRowsOfOne largest_limits rs
  rows_largest [] a v = tt
  rows_largest (r ∷ rs) a v = (v.0, valid_largest v.0 a v.1, v.2)

  -- the role of the next item is the stack's
  role_of : (bytes : List ℕ) (e : Sums) (o : Outline) (rs : List Row) (role : Role)
      (r : Outlined limits bytes e o rs) → outline_role e o ≡ Some role
      → role_at e r.stack ≡ Some role
  role_of bytes e o rs role r says = same_role e r.stack ∙ (ap (outline_role e) r.outline ∙ says)

  pub outlined_start : IsAllowance limits → Outlined limits [] nothing ([], OnHeader) []
  outlined_start allowed = record {
    stack = started;
    reached = reached_nothing limits allowed;
    outline = refl;
    rows = refl;
  }

  -- the state after an item, with its notes added
  pub noted_item : (bytes : List ℕ) (e : Sums) (o : Outline) (rs : List Row) (told : ℕ → Notes)
      (i : Item) → NotedOutline limits bytes e o rs told → outline_role e o ≡ Some i.role
      → Gives i.role i.number i.bytes
      → objection limits e i.role i.number ≡ None → NotedOutline limits (bytes ++ i.bytes)
      (added e i) (outline_after e i o) (applied (change_after e i o) rs)
      (λ start. noted_by start e i.role i.number (told start))
  noted_item bytes e o rs told i n says gives free =
      let r = n.outlined in
      let next = reached_on limits bytes e r.stack i r.reached (role_of bytes e o rs i.role r says) gives free in
      record {
        outlined = record {
          stack = stack_after e i r.stack;
          reached = next.0;
          outline = outline_steps (moved e.position i.role i.number) (e.bytes + length i.bytes)
              i.number r.stack.0 r.stack.1 ∙ ap (outline_after e i) r.outline;
          rows = stack_grows (moved e.position i.role i.number) (e.bytes + length i.bytes) i.number r.stack.0 r.stack.1
              ∙ (ap (λ q. applied (change_after e i q) (rows_so_far r.stack)) r.outline
              ∙ ap (applied (change_after e i o)) r.rows);
        };
        notes = λ start. ap (noted start nothing no_notes) next.1
            ∙ (noted-append start r.reached.items (i ∷ []) nothing no_notes
            ∙ (ap (λ s. noted_by start s i.role i.number (notes_in start r)) r.reached.sums
            ∙ ap (noted_by start e i.role i.number) (n.notes start)));
      }

  pub outlined_item : (bytes : List ℕ) (e : Sums) (o : Outline) (rs : List Row) (i : Item)
      → Outlined limits bytes e o rs → outline_role e o ≡ Some i.role
      → Gives i.role i.number i.bytes
      → objection limits e i.role i.number ≡ None → Outlined limits (bytes ++ i.bytes) (added e i)
      (outline_after e i o) (applied (change_after e i o) rs)
  outlined_item bytes e o rs i r says gives free =
      (noted_item bytes e o rs (λ start. notes_in start r) i
      (record { outlined = r; notes = λ start. refl }) says gives free).outlined

  pub outlined_refused : (bytes : List ℕ) (e : Sums) (o : Outline) (rs : List Row) (i : Item)
      (reason : Reason) → Outlined limits bytes e o rs → outline_role e o ≡ Some i.role
      → Gives i.role i.number i.bytes
      → objection limits e i.role i.number ≡ Some reason → (more : List ℕ)
      → FirstFault limits (bytes ++ (i.bytes ++ more)) e.bytes reason
  outlined_refused bytes e o rs i reason r says gives objects =
      subst (Leads limits bytes e r.stack i) objects
      (leads limits bytes e r.stack i r.reached (role_of bytes e o rs i.role r says) gives)

  -- the state after the ends of a stack
  landed_outline : (bytes : List ℕ) (e : Sums) (st : Stack) (w : Result Stack Reason)
      → ends e.bytes st.0 st.1 ≡ w → Landed limits bytes e w
      → OutlineLanded limits bytes e (rows_so_far st) (outline_in w)
  landed_outline bytes e st (Ok last) same l = record {
    stack = last;
    reached = l;
    outline = refl;
    rows = rows_at_ends e.bytes st.0 st.1 last same;
  }
  landed_outline bytes e st (Err reason) same l = l

  pub outlined_ends : (bytes : List ℕ) (e : Sums) (o : Outline) (rs : List Row)
      → Outlined limits bytes e o rs → OutlineLanded limits bytes e rs (outline_ends e.bytes o)
  outlined_ends bytes e o rs r =
      let here = landed_outline bytes e r.stack (ends e.bytes r.stack.0 r.stack.1) refl
      (landed limits bytes e r.stack.0 r.stack.1 r.reached) in
      let there = subst (OutlineLanded limits bytes e (rows_so_far r.stack))
      (outline_at_ends e.bytes r.stack.0 r.stack.1 ∙ ap (outline_ends e.bytes) r.outline)
      here in
      subst (λ l. OutlineLanded limits bytes e l (outline_ends e.bytes o)) r.rows there

  -- a stack whose outline is finished is finished
  finished_stack : (bytes : List ℕ) (e : Sums) (fs : List Frame) (ph : Phase) → map frame_outline fs ≡ []
      → stage_of ph ≡ OnFinished → Reached limits bytes e (fs, ph) → (g : Tree) × Blob limits bytes g
      × (rows 0 g ≡ rows_so_far (fs, ph))
  finished_stack bytes e [] (Finished g) none same r = (g, reached_blob limits bytes e g r, refl)
  finished_stack bytes e [] (AtBody h f ids (Want d a)) none same r = absurd cc
  finished_stack bytes e _ _ none same r = absurd cc

  pub outlined_whole : (bytes : List ℕ) (e : Sums) (rs : List Row)
      → Outlined limits bytes e ([], OnFinished) rs → (g : Tree) × Blob limits bytes g
      × (rows 0 g ≡ rs)
  outlined_whole bytes e rs r = let f = finished_stack bytes e r.stack.0 r.stack.1
      (ap (λ (o : Outline). o.0) r.outline) (ap (λ (o : Outline). o.1) r.outline) r.reached in
      (f.0, f.1, f.2 ∙ r.rows)

  -- the rows are those of a valid geometry
  pub outlined_valid : (bytes : List ℕ) (e : Sums) (o : Outline) (rs : List Row)
      → Outlined limits bytes e o rs → AreValidRowsOfOne limits rs
  outlined_valid bytes e o rs r = subst (AreValidRowsOfOne limits) r.rows
      (reached_valid limits bytes e r.stack r.reached)

  pub outlined_largest : IsAllowance limits → (bytes : List ℕ) (e : Sums) (o : Outline)
      (rs : List Row) → Outlined limits bytes e o rs → AreValidRowsOfOne largest_limits rs
  outlined_largest allowed bytes e o rs r = rows_largest rs allowed (outlined_valid bytes e o rs r)

  pub outlined_takes : (bytes : List ℕ) (e : Sums) (o : Outline) (rs : List Row)
      (p : Rattle.twkb_points.specs.Point.Point) (n : ℕ) → Outlined limits bytes e o rs
      → Takes (change_of p n o) rs
  outlined_takes bytes e o rs p n r = subst (λ q. Takes (change_of p n q) rs) r.outline
      (subst (Takes (change_of p n (outline_of r.stack))) r.rows
      (stack_takes p n r.stack.0 r.stack.1))

  -- a row that begins continues the rows
  pub row_goes_on : IsAllowance limits → (bytes : List ℕ) (e : Sums) (o : Outline) (rs : List Row)
      (row : Row) → Outlined limits bytes e o (rs ++ row ∷ []) → Continues largest_limits rs row
  row_goes_on allowed bytes e o rs row r = continues_largest limits rs row allowed
      (continues_row limits rs row (outlined_valid bytes e o (rs ++ row ∷ []) r))

  -- ---- the bytes

  pub outlined_bytes : (bytes : List ℕ) (e : Sums) (o : Outline) (rs : List Row)
      → Outlined limits bytes e o rs → length bytes ≡ e.bytes
  outlined_bytes bytes e o rs r = reached_bytes limits bytes e r.stack r.reached

  pub outlined_part : (bytes : List ℕ) (e : Sums) (o : Outline) (rs : List Row)
      → Outlined limits bytes e o rs → IsPart limits bytes
  outlined_part bytes e o rs r = reached_part limits bytes e r.stack r.reached

  pub outlined_depth : (bytes : List ℕ) (e : Sums) (o : Outline) (rs : List Row)
      → Outlined limits bytes e o rs → length o.0 ≤ limits.nest
  outlined_depth bytes e o rs r =
      let few = reached_depth limits bytes e r.stack r.reached in
      let same : length (map frame_outline r.stack.0) ≡ length o.0 = ap (λ (q : Outline). length q.0) r.outline in
      omega (arith, few, same, length-map r.stack.0 frame_outline)

  pub outlined_cut : (bytes : List ℕ) (e : Sums) (o : Outline) (rs : List Row) (rest : List ℕ)
      (role : Role) → Outlined limits bytes e o rs → outline_role e o ≡ Some role → IsNumber role
      → IsCut rest → FirstFault limits (bytes ++ rest) e.bytes Truncated
  outlined_cut bytes e o rs rest role r says n c = reached_cut limits bytes e r.stack rest role
      r.reached (role_of bytes e o rs role r says) n c

  pub outlined_long : (bytes : List ℕ) (e : Sums) (o : Outline) (rs : List Row) (rest : List ℕ)
      (role : Role) → Outlined limits bytes e o rs → outline_role e o ≡ Some role → IsNumber role
      → IsTooLong rest → FirstFault limits (bytes ++ rest) e.bytes BadVarint
  outlined_long bytes e o rs rest role r says n c = reached_long limits bytes e r.stack rest role
      r.reached (role_of bytes e o rs role r says) n c

  pub outlined_missing : (bytes : List ℕ) (e : Sums) (o : Outline) (rs : List Row) (role : Role)
      → Outlined limits bytes e o rs → outline_role e o ≡ Some role → bytes ≢ []
      → ((d : Option ℕ) (came : ℕ) → role ≡ End d came → ⊥)
      → FirstFault limits bytes e.bytes Truncated
  outlined_missing bytes e o rs role r says some n = reached_end limits bytes e r.stack role
      r.reached (role_of bytes e o rs role r says) some n

-- ---- the shape of an outline

stage_fits : (ph : Phase) → StageFits (stage_of ph)
stage_fits (AtBody h f ids (Want d a)) = lefts_fit a
stage_fits (AtBody h f ids (WantY a)) = omega (arith, lefts_fit a)
stage_fits _ = tt

pub outlined_fits : (limits : Allowance) (bytes : List ℕ) (e : Sums) (o : Outline) (rs : List Row)
    → Outlined limits bytes e o rs → StageFits o.1
outlined_fits limits bytes e o rs r = subst (λ (q : Outline). StageFits q.1) r.outline (stage_fits r.stack.1)

-- ==== If an outline waits for no end, no size is found wrong after the bytes.

pub outlined_exact : (limits : Allowance) (bytes more : List ℕ) (e : Sums) (o : Outline)
    (rs : List Row) → Outlined limits bytes e o rs
    → ((role : Role) → outline_role e o ≡ Some role → NoEnd role)
    → FirstFault limits (bytes ++ more) (length bytes) SizeMismatch → ⊥
outlined_exact limits bytes more e o rs r apart =
    no_size_wrong limits bytes more e r.stack r.reached
    (λ role says. apart role (sym (same_role e r.stack ∙ ap (outline_role e) r.outline) ∙ says))

-- ==== The state of a reader that has read nothing.

pub starts_at : (limits : Allowance) (position : Point) (gs : List FrameOutline) (rs : List Row)
    → IsAllowance limits → position ≡ origin → gs ≡ [] → rs ≡ []
    → Outlined limits [] (record { bytes = 0; position = position; nodes = 1; points = 0 }) (gs, OnHeader) rs
starts_at limits position gs rs sound ep eg er = rw (ep, eg, er) (outlined_start limits sound)
