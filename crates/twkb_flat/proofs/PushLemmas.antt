-- The form after a push: of any row, of a root in place of all rows, and of a member of a multipoint.
use Rattle.std.proofs.Common.{◌≡◌, ℕ, ◌+◌, ◌-◌, ◌≤◌, List, [], ◌∷◌, ◌++◌, map, length, take, get_or, refl, sym, ap, ◌∙◌}
use Rattle.std.proofs.Common.{subst, arith, ℤ, None, zero, suc, ◌<◌, Bool, true, set, Option, Some}
use Rattle.std.proofs.lemmas.List.{length-map, length-append, length_push, map_push, take_all, take_at, take-append-le}
use Rattle.std.proofs.lemmas.List.{get_or_push, reverse-append}
use Rattle.std.specs.Prelude.{reverse, is_some, is_none, nat_le}
use Rattle.twkb_points.specs.Point.{Point, IsInRange}
use Rattle.twkb_tree.specs.declared.limits.TheConstants.{POINTS_CAP, NODES_CAP}
use Rattle.twkb_tree.specs.Limits.{largest_limits}
use Rattle.twkb_tree.specs.Rows.{Row as TableRow, row_points, whole_row, plain_row, AreValidRowsOfOne}
use Rattle.twkb_tree.specs.Admits.{Continues, id_in_range, has_same_ids, fits}
use Rattle.twkb_tree.specs.declared.kind.Kind.{Kind}
use Rattle.twkb_tree.specs.Tree.{IsPrecision}
use Rattle.twkb_tree.specs.declared.open_rows.OpenRow.{OpenRow}
use Rattle.twkb_tree.specs.Refusal.{checks_under, first_failed}
use Rattle.twkb_tree.specs.Open.{AreOpen, IsOpenAt, opened, open_count, open_parent, open_refusal, open_continues}
use Rattle.twkb_tree.specs.Open.{is_next, row_of, child_of, child_by}
use Rattle.twkb_tree.proofs.RowForest.{is_precision-true, both, test_below, test_within}
use Rattle.twkb_tree.proofs.OpenLaws.{steps_open, open_more, apart, passed, continues_is, continues_open}
use Rattle.twkb_tree.proofs.LimitLaws.{of_one}
use Rattle.twkb_tree.proofs.RowLaws.{length-row_points, row_points-append}
use Rattle.twkb_flat.specs.declared.node.Row.{Row}
use Rattle.twkb_flat.specs.declared.kept_nodes.PlacedRow.{PlacedRow}
use Rattle.twkb_flat.specs.declared.kept_nodes.KeptNode.{KeptNode}
use Rattle.twkb_flat.specs.Rows.{Linked, MayFollow, levels, row_with, depths}
use Rattle.twkb_flat.specs.KeptNodes.{IsFlat, IsPut, IsUnlinked, Laid, listed, placed_of, next_of, placed_depth}
use Rattle.twkb_flat.specs.KeptNodes.{depths_in, links_in, new_node}
use Rattle.twkb_flat.specs.Taking.{with_member, OpenInMember, EndsInMember}
use Rattle.twkb_flat.proofs.LinkLemmas.{length-depths_in, link_in, some_node, root_linked, last_depth, linked_beside}
use Rattle.twkb_flat.proofs.LinkLemmas.{length-listed, depths-listed, flat_points, laid-push, listed-push, some_rows}
use Rattle.twkb_flat.proofs.FlatOpenLemmas.{GoesOn, goes_on, flat_levels}
use Rattle.twkb_flat.proofs.LastPoint.{later_next, open_is, rows_open}

-- ==== The form after a push.

-- the pushed row continues the geometry
pub admitted : (es : List KeptNode) (ps : List Point) (row : Row) (qs : List Point) (rows : List TableRow)
    → IsFlat es ps → listed (map placed_of es) ps ≡ rows
    → Continues largest_limits rows (row_with row qs) → GoesOn rows (row_with row qs)
admitted es ps row qs rows flat view continues = goes_on rows (row_with row qs)
    (subst (AreValidRowsOfOne largest_limits) view flat.valid) continues

-- the placed row of the pushed row
abbrev pub new_placed : Row → List Point → List Point → PlacedRow
new_placed row ps qs = record { row = row; first = length ps; points = length qs }

-- ---- the kept nodes with one more kept node

-- the depths with one more kept node
pub depths_more : (es : List KeptNode) (e : KeptNode)
    → depths_in (es ++ e ∷ []) ≡ depths_in es ++ e.placed.row.depth ∷ []
depths_more es e = ap (map placed_depth) (map_push placed_of es e) ∙ map_push placed_depth (map placed_of es) e.placed

-- the new kept node is not linked yet
unlinked_more : (es : List KeptNode) (e : KeptNode) (at : ℕ) → Linked (depths_in es) (links_in es)
    → MayFollow (depths_in es) e.placed.row.depth → at ≡ length es → IsUnlinked (es ++ e ∷ []) at
unlinked_more es e at linked place at_end =
    let end : length (depths_in es) ≡ at = omega (arith, length-depths_in es, at_end) in
    let before : take at (depths_in (es ++ e ∷ [])) ≡ depths_in es = ap (take at) (depths_more es e)
    ∙ take_at (depths_in es) (e.placed.row.depth ∷ []) at end in
    let links : take at (links_in (es ++ e ∷ [])) ≡ links_in es = ap (take at)
    (map_push next_of es e) ∙ take_at (links_in es) (e.next.0 ∷ []) at
    (omega (arith, length-map es next_of, at_end)) in
    let here : get_or (depths_in (es ++ e ∷ [])) at 0 ≡ e.placed.row.depth =
    ap (λ (ds : List ℕ). get_or ds at 0) (depths_more es e)
    ∙ get_or_push (depths_in es) e.placed.row.depth 0 at end in
    record {
      last = omega (arith, length_push es e, at_end);
      linked = subst (λ (ds : List ℕ). Linked ds (take at (links_in (es ++ e ∷ [])))) (sym before)
          (subst (λ (ls : List ℕ). Linked (depths_in es) ls) (sym links) linked);
      place = subst (λ (ds : List ℕ). MayFollow ds (get_or (depths_in (es ++ e ∷ [])) at 0))
          (sym before) (subst (λ (d : ℕ). MayFollow (depths_in es) d) (sym here) place);
    }

-- the new kept node of a row that continues the geometry is not linked yet
pub unlinked : (es mid : List KeptNode) (ps qs now : List Point) (at : ℕ) (row : Row) (rows : List TableRow)
    → IsFlat es ps → listed (map placed_of es) ps ≡ rows
    → Continues largest_limits rows (row_with row qs) → IsPut row qs es mid ps now → at ≡ length es
    → IsUnlinked mid at
unlinked es mid ps qs now at row rows flat view continues put at_end =
    let place = (admitted es ps row qs rows flat view continues).place in
    let same : depths rows ≡ depths_in es = ap depths (sym view) ∙ depths-listed (map placed_of es) ps in
    subst (λ (xs : List KeptNode). IsUnlinked xs at) (sym put.node)
    (unlinked_more es (new_node (new_placed row ps qs)) at flat.linked
    (subst (λ (ds : List ℕ). MayFollow ds row.depth) same place) at_end)

-- the kept nodes with the new one, linked, and the points
pub record Pushed (es after : List KeptNode) (ps qs now : List Point) (row : Row) : Type 0 where
  pub placed_rows : map placed_of after ≡ map placed_of es ++ new_placed row ps qs ∷ []
  pub linked : Linked (depths_in after) (links_in after)
  pub now_is : now ≡ ps ++ qs

-- a node and its points were put, and are linked
pub pushed_by : (es mid after : List KeptNode) (ps qs now : List Point) (row : Row)
    → IsPut row qs es mid ps now → map placed_of after ≡ map placed_of mid
    → Linked (depths_in mid) (links_in after) → Pushed es after ps qs now row
pushed_by es mid after ps qs now row put placed_rows linked = record {
  placed_rows = placed_rows ∙ ap (map placed_of) put.node ∙ map_push placed_of es (new_node (new_placed row ps qs));
  linked = subst (λ (ds : List ℕ). Linked ds (links_in after)) (ap (map placed_depth) (sym placed_rows)) linked;
  now_is = put.points;
}

-- the rows after a push
pub view_after : (es after : List KeptNode) (ps qs now : List Point) (row : Row) (rows : List TableRow)
    → IsFlat es ps → listed (map placed_of es) ps ≡ rows → Pushed es after ps qs now row
    → listed (map placed_of after) now ≡ rows ++ row_with row qs ∷ []
view_after es after ps qs now row rows flat view p =
    let laid : Laid 0 (map placed_of es) (0 + length ps) =
    subst (λ (n : ℕ). Laid 0 (map placed_of es) n) (omega arith) flat.laid in
    ap (λ (xs : List Point). listed (map placed_of after) xs) p.now_is
    ∙ ap (λ (ss : List PlacedRow). listed ss (ps ++ qs)) p.placed_rows
    ∙ listed-push 0 (map placed_of es) ps qs (new_placed row ps qs) laid refl
    ∙ ap (λ (rs : List TableRow). rs ++ row_with row qs ∷ []) view

-- the form after a push is valid
pub flat_after : (es after : List KeptNode) (ps qs now : List Point) (row : Row) (rows : List TableRow)
    → IsFlat es ps → listed (map placed_of es) ps ≡ rows
    → Continues largest_limits rows (row_with row qs) → Pushed es after ps qs now row
    → IsFlat after now
flat_after es after ps qs now row rows flat view continues p =
    let goes = admitted es ps row qs rows flat view continues in
    let new_view = view_after es after ps qs now row rows flat view p in
    let points_total = ap (λ (rs : List TableRow). length (row_points rs)) (sym view)
    ∙ ap length (flat_points (map placed_of es) ps flat.laid) in
    let rows_total = ap length (sym view) ∙ length-listed (map placed_of es) ps ∙ length-map es placed_of in
    let after_total = sym (length-map after placed_of) ∙ ap length p.placed_rows
    ∙ length_push (map placed_of es) (new_placed row ps qs)
    ∙ ap (λ (n : ℕ). n + 1) (length-map es placed_of) in
    let all : length now ≡ length ps + length qs = ap length p.now_is ∙ length-append ps qs in
    record {
      laid = subst (λ (ss : List PlacedRow). Laid 0 ss (length now)) (sym p.placed_rows)
          (subst (λ (n : ℕ). Laid 0 (map placed_of es ++ new_placed row ps qs ∷ []) n) (sym all)
          (laid-push 0 (length ps) (map placed_of es) (new_placed row ps qs) flat.laid refl));
      linked = p.linked;
      valid = subst (AreValidRowsOfOne largest_limits) (sym new_view) goes.valid;
      nodes = omega (arith, goes.nodes, rows_total, after_total);
      most = omega (arith, goes.most, points_total, all);
    }

-- ---- a node that was put

-- its points are counted as the difference in all points
pub put_as : (es put : List KeptNode) (ps qs now : List Point) (first size : ℕ) (row : Row)
    → first ≡ length ps → size ≡ length now → now ≡ ps ++ qs
    → put ≡ es ++ new_node (record { row = row; first = first; points = size - first }) ∷ []
    → IsPut row qs es put ps now
put_as es put ps qs now first size row first_is size_is now_is put_is =
    let own : size - first ≡ length qs = omega (arith, size_is, first_is, ap length now_is, length-append ps qs) in
    let counted = ap (λ (n : ℕ). es ++ new_node (record { row = row; first = first; points = n }) ∷ []) own in
    let placed = ap (λ (n : ℕ). es ++ new_node (record { row = row; first = n; points = length qs }) ∷ []) first_is in
    record { node = put_is ∙ counted ∙ placed; points = now_is }

-- points that were put are taken away again
pub cut_back : (ps qs now back : List Point) (n : ℕ) → n ≡ length ps → now ≡ ps ++ qs → back ≡ take n now → back ≡ ps
cut_back ps qs now back n n_is now_is cut = cut ∙ ap (take n) now_is
    ∙ take-append-le n ps qs (omega (arith, n_is)) ∙ take_all n ps (omega (arith, n_is))

-- there is room for the points of a row that continues the geometry
pub points_left : (es : List KeptNode) (ps : List Point) (row : Row) (qs : List Point) (rows : List TableRow)
    → IsFlat es ps → listed (map placed_of es) ps ≡ rows
    → Continues largest_limits rows (row_with row qs) → length ps + length qs ≤ POINTS_CAP
points_left es ps row qs rows flat view continues =
    let goes = admitted es ps row qs rows flat view continues in
    let points_total = ap (λ (rs : List TableRow). length (row_points rs)) (sym view)
    ∙ ap length (flat_points (map placed_of es) ps flat.laid) in
    omega (arith, goes.most, points_total)

-- setting links does not change the number of kept nodes
pub same_count : (mid after : List KeptNode) → map placed_of after ≡ map placed_of mid → length after ≡ length mid
same_count mid after placed_rows = sym (length-map after placed_of) ∙ (ap length placed_rows ∙ length-map mid placed_of)

-- if nothing was put, the form is unchanged
pub kept_flat : (es more : List KeptNode) (ps all : List Point) → IsFlat es ps → more ≡ es → all ≡ ps → IsFlat more all
kept_flat es more ps all flat no_node no_point =
    subst (λ (xs : List KeptNode). IsFlat xs all) (sym no_node)
    (subst (λ (xs : List Point). IsFlat es xs) (sym no_point) flat)

-- if nothing was put, the rows are unchanged
pub kept_view : (es more : List KeptNode) (ps all : List Point) (rows : List TableRow)
    → listed (map placed_of es) ps ≡ rows → more ≡ es → all ≡ ps
    → listed (map placed_of more) all ≡ rows
kept_view es more ps all rows view no_node no_point =
    ap (λ (xs : List KeptNode). listed (map placed_of xs) all) no_node
    ∙ (ap (λ (xs : List Point). listed (map placed_of es) xs) no_point ∙ view)

-- ==== The form after a root was put in place of all rows.

-- ---- no rows

no_items : {A : Type 0} (xs : List A) → length xs ≡ 0 → xs ≡ []
no_items [] e = refl
no_items (x ∷ xs) e = absurd (omega (arith, e))

-- a form without kept nodes has no points
pub no_points : (es : List KeptNode) (ps : List Point) → IsFlat es ps → listed (map placed_of es) ps ≡ [] → ps ≡ []
no_points es ps flat none = no_items ps (ap length (sym (rw none at (flat_points (map placed_of es) ps flat.laid))))

-- a form without rows has no kept nodes
no_nodes : (es : List KeptNode) (ps : List Point) → listed (map placed_of es) ps ≡ [] → es ≡ []
no_nodes es ps none = no_items es (sym (length-map es placed_of) ∙ some_rows (map placed_of es) ps none)

-- an empty form
pub flat_none : IsFlat [] []
flat_none = record {
  laid = refl;
  linked = record { same = refl; links = λ i within. absurd (omega arith); steps = λ i within. absurd (omega arith) };
  valid = tt;
  nodes = omega arith;
  most = omega arith;
}

-- ---- the root

-- the kept node of a root with this many points
abbrev pub root_node : Row → ℕ → KeptNode
root_node row count = new_node (record { row = row; first = 0; points = count })

-- a root alone is properly linked
root_pushed : (row : Row) (qs : List Point) → Continues largest_limits [] (row_with row qs)
    → Pushed [] (root_node row (length qs) ∷ []) [] qs qs row
root_pushed row qs continues =
    let put : IsPut row qs [] (root_node row (length qs) ∷ []) [] qs = record { node = refl; points = refl } in
    pushed_by [] (root_node row (length qs) ∷ []) (root_node row (length qs) ∷ []) [] qs qs row
    put refl (root_linked (root_node row (length qs) ∷ [])
    (unlinked [] (root_node row (length qs) ∷ []) [] qs qs 0 row [] flat_none refl
    continues put refl))

-- the kept node and points put in place of no rows
root_put : (es mid : List KeptNode) (ps qs : List Point) (total : ℕ) (row : Row)
    → listed (map placed_of es) ps ≡ [] → total ≡ length qs → mid ≡ es ++ root_node row total ∷ []
    → mid ≡ root_node row (length qs) ∷ []
root_put es mid ps qs total row none total_is put = put
    ∙ ap (λ (xs : List KeptNode). xs ++ root_node row total ∷ []) (no_nodes es ps none)
    ∙ ap (λ (n : ℕ). root_node row n ∷ []) total_is

-- the form of the root is valid
pub begun_flat : (es mid : List KeptNode) (ps qs : List Point) (total : ℕ) (row : Row)
    → listed (map placed_of es) ps ≡ [] → Continues largest_limits [] (row_with row qs)
    → total ≡ length qs → mid ≡ es ++ root_node row total ∷ [] → IsFlat mid qs
begun_flat es mid ps qs total row none continues total_is put =
    subst (λ (xs : List KeptNode). IsFlat xs qs) (sym (root_put es mid ps qs total row none total_is put))
    (flat_after [] (root_node row (length qs) ∷ []) [] qs qs row [] flat_none refl continues
    (root_pushed row qs continues))

-- the rows of the form are the root
pub begun_rows : (es mid : List KeptNode) (ps qs : List Point) (total : ℕ) (row : Row)
    → listed (map placed_of es) ps ≡ [] → Continues largest_limits [] (row_with row qs)
    → total ≡ length qs → mid ≡ es ++ root_node row total ∷ []
    → listed (map placed_of mid) qs ≡ row_with row qs ∷ []
begun_rows es mid ps qs total row none continues total_is put =
    ap (λ (xs : List KeptNode). listed (map placed_of xs) qs) (root_put es mid ps qs total row none total_is put)
    ∙ view_after [] (root_node row (length qs) ∷ []) [] qs qs row [] flat_none refl (root_pushed row qs continues)

-- a point alone may begin a geometry
pub point_begins : (precision : ℤ) (p : Point) → IsPrecision precision → IsInRange p
    → Continues largest_limits [] (whole_row 0 Kind.Point None precision (p ∷ []))
point_begins precision p fits in_range = (
  record {
    admitted = rw (is_precision-true precision fits) refl;
    nest = refl;
    nodes = omega arith;
    in_range = (in_range, tt);
    points = omega arith;
  },
  refl,
)

-- ==== A member of a multipoint is added after another member.

-- ---- the open rows

-- the number of open rows that end in a member
length-with_member : (above : List OpenRow) (b : Bool) → length (with_member above b) ≡ suc (suc (length above))
length-with_member [] b = refl
length-with_member (o ∷ os) b = omega (arith, length-with_member os b)

-- the parent of one more member
member_parent : (above : List OpenRow) (b : Bool)
    → open_parent (suc (length above)) (with_member above b) ≡ Some
    (record { kind = Kind.MultiPoint; child_ids = Some b })
member_parent [] b = refl
member_parent (o ∷ os) b = member_parent os b

-- the open rows stay as they are after one more member
opened_member : (above : List OpenRow) (r : TableRow) → r.kind ≡ Kind.Point
    → opened (suc (length above)) (with_member above (is_some r.id)) r ≡ with_member above
    (is_some r.id)
opened_member [] r kind =
    ap (λ k. record { kind = Kind.MultiPoint; child_ids = Some (is_some r.id) }
    ∷ record { kind = k; child_ids = None } ∷ []) kind
opened_member (o ∷ os) r kind = ap (λ xs. o ∷ xs) (opened_member os r kind)

-- the last two open rows of a list
pub ends_in_two : (n : ℕ) (os : List OpenRow) (b : Bool) (blank : OpenRow) → length os ≡ suc (suc n)
    → get_or os n blank ≡ record { kind = Kind.MultiPoint; child_ids = Some b }
    → get_or os (suc n) blank ≡ record { kind = Kind.Point; child_ids = None }
    → OpenInMember (suc n) b os
ends_in_two zero (o ∷ p ∷ []) b blank size parent member =
    record {
      above = [];
      depth = refl;
      whole = ap (λ x. x ∷ p ∷ []) parent
          ∙ ap (λ x. record { kind = Kind.MultiPoint; child_ids = Some b } ∷ x ∷ []) member;
    }
ends_in_two zero (o ∷ _) b blank size parent member = absurd (omega (arith, size))
ends_in_two n [] b blank size parent member = absurd (omega (arith, size))
ends_in_two (suc n) (o ∷ os) b blank size parent member =
    let rest = ends_in_two n os b blank (omega (arith, size)) parent member in
    record { above = o ∷ rest.above; depth = ap suc rest.depth; whole = ap (λ xs. o ∷ xs) rest.whole }

-- ---- the row of the member

-- an id agrees with itself as the first child's
same_ids : (id : Option ℤ) → has_same_ids (child_by (Some (is_some id))) id ≡ true
same_ids None = refl
same_ids (Some n) = refl

-- one more member may come, by the open rows
open_admits : (above : List OpenRow) (id : Option ℤ) (p : Point) (nodes points : ℕ)
    → id_in_range id ≡ true → IsInRange p → nodes < NODES_CAP → points < POINTS_CAP
    → open_continues largest_limits (with_member above (is_some id)) nodes points
    (plain_row (suc (length above)) Kind.Point id (p ∷ [])) ≡ true
open_admits above id p nodes points range in_range few room =
    let os = with_member above (is_some id) in
    let r = plain_row (suc (length above)) Kind.Point id (p ∷ []) in
    let m : Option OpenRow = Some (record { kind = Kind.MultiPoint; child_ids = Some (is_some id) }) in
    let steps : nat_le r.depth (length os) ≡ true = test_within r.depth (length os)
    (omega (arith, length-with_member above (is_some id))) in
    let fit : fits (row_of m) (child_of m) r ≡ true = rw (range, same_ids id) refl in
    let passes = apart largest_limits (nat_le r.depth (length os)) (row_of m) (child_of m) nodes
    points r (both (nat_le r.depth (length os)) (fits (row_of m) (child_of m) r) steps fit) refl
    few (in_range, tt) (omega (arith, room)) in
    let none : open_refusal largest_limits os nodes points r ≡ None =
    subst (λ o. first_failed (checks_under largest_limits (nat_le r.depth (length os)) (row_of o)
    (child_of o) nodes points r) ≡ None) (sym (member_parent above (is_some id)))
    (passed largest_limits (nat_le r.depth (length os)) (row_of m) (child_of m) nodes points r passes) in
    both (is_none (open_refusal largest_limits os nodes points r)) (is_next os r) (ap is_none none)
    (sym (later_next r.depth os r refl (λ e. absurd
    (omega (arith, e, length-with_member above (is_some id)))))
    ∙ test_below 0 r.depth (omega arith))

-- one more member continues the geometry
member_continues : (rows : List TableRow) (d : ℕ) (id : Option ℤ) (p : Point)
    → AreValidRowsOfOne largest_limits rows → EndsInMember d (is_some id) rows
    → id_in_range id ≡ true → IsInRange p → length rows < NODES_CAP → length (row_points rows) < POINTS_CAP
    → Continues largest_limits rows (plain_row d Kind.Point id (p ∷ []))
member_continues rows d id p valid ends range in_range few room =
    let e = ends.ends in
    let os_open = subst (λ os. AreOpen (reverse rows) os) e.whole ends.are_open in
    let r = plain_row (suc (length e.above)) Kind.Point id (p ∷ []) in
    let goes = open_admits e.above id p (length rows) _ range in_range few
    (subst (λ n. n < POINTS_CAP) (length-row_points rows) room) in
    subst (λ k. Continues largest_limits rows (plain_row k Kind.Point id (p ∷ []))) (sym e.depth)
    (continues_is largest_limits rows r
    (sym (continues_open largest_limits rows (with_member e.above (is_some id)) r
    (of_one largest_limits rows valid) os_open) ∙ goes))

-- the rows end in a member again
ends_again : (rows : List TableRow) (r : TableRow) → r.kind ≡ Kind.Point
    → EndsInMember r.depth (is_some r.id) rows → EndsInMember r.depth (is_some r.id)
    (rows ++ r ∷ [])
ends_again rows r kind ends =
    let e = ends.ends in
    let os = with_member e.above (is_some r.id) in
    let now = subst (λ xs. AreOpen (reverse rows) xs) e.whole ends.are_open in
    let steps = steps_open r.depth (reverse rows) os now
    ∙ test_within r.depth (length os)
    (omega (arith, e.depth, length-with_member e.above (is_some r.id))) in
    let same : opened r.depth os r ≡ os = ap (λ d. opened d os r) e.depth ∙ opened_member e.above r kind in
    record {
      os = os;
      are_open = subst (λ xs. AreOpen xs os) (sym (reverse-append rows (r ∷ [])))
          (subst (AreOpen (r ∷ reverse rows)) same (open_more (reverse rows) os r steps now));
      ends = record { above = e.above; depth = e.depth; whole = refl };
    }

-- ---- the form

-- the last row is at the member's depth, below another
pub member_last : (rows : List TableRow) (d : ℕ) (b : Bool) → EndsInMember d b rows → (0 < d)
    × (open_count (reverse rows) ≡ d + 1)
member_last rows d b ends =
    let e = ends.ends in
    let size = length-with_member e.above b in
    (omega (arith, e.depth), omega (arith, ends.are_open.all, ap length e.whole, size, e.depth))

-- the open rows at the last two depths show that the rows end in a member
pub in_member : (rows : List TableRow) (d count : ℕ) (b : Bool) (o p : OpenRow)
    → AreValidRowsOfOne largest_limits rows → count ≡ open_count (reverse rows) → 2 ≤ count
    → count - 1 ≡ d → IsOpenAt (d - 1) (reverse rows) o → IsOpenAt d (reverse rows) p
    → o ≡ record { kind = Kind.MultiPoint; child_ids = Some b }
    → p ≡ record { kind = Kind.Point; child_ids = None } → EndsInMember d b rows
in_member rows d count b o p valid counted some last parent member parent_is member_is =
    let found = rows_open rows valid in
    let deep : suc (d - 1) ≡ d = omega (arith, some, last) in
    let above = open_is (d - 1) (reverse rows) found.0 o o found.1
    (omega (arith, found.1.all, counted, some, last)) parent in
    let below = open_is d (reverse rows) found.0 o p found.1 (omega (arith, found.1.all, counted, some, last)) member in
    let two = ends_in_two (d - 1) found.0 b o (omega (arith, found.1.all, counted, some, last))
    (above ∙ parent_is) (ap (λ (k : ℕ). get_or found.0 k o) deep ∙ (below ∙ member_is)) in
    record { os = found.0; are_open = found.1; ends = subst (λ (k : ℕ). OpenInMember k b found.0) deep two }

-- there is a last kept node, at the member's depth
pub member_node : (es : List KeptNode) (ps : List Point) (rows : List TableRow) (d : ℕ) (b : Bool)
    → listed (map placed_of es) ps ≡ rows → EndsInMember d b rows → (0 < length es)
    × (levels (depths_in es) ≡ d + 1)
member_node es ps rows d b view ends =
    let deepest : levels (depths_in es) ≡ d + 1 = sym (flat_levels es ps rows view) ∙ (member_last rows d b ends).1 in
    (some_node es d (omega (arith, deepest)), deepest)

-- the kept nodes with the new member, which gets the link of the last one
pub member_pushed : (es mid after : List KeptNode) (ps now : List Point) (p : Point) (e : KeptNode)
    (last first total d : ℕ) (id : Option ℤ) (rows : List TableRow) → IsFlat es ps
    → listed (map placed_of es) ps ≡ rows → EndsInMember d (is_some id) rows
    → last + 1 ≡ total → length es ≡ total → length ps ≡ first → e ≡ get_or es last e
    → mid ≡ es ++ record {
      placed = record {
        row = record {
          depth = d;
          kind = Kind.Point;
          id = id;
          precision = None;
        };
        first = first;
        points = 1;
      };
      next = e.next;
    } ∷ [] → now ≡ ps ++ p ∷ []
    → map placed_of after ≡ map placed_of mid → links_in after ≡ set (links_in mid) last total
    → Pushed es after ps (p ∷ []) now
    (record { depth = d; kind = Kind.Point; id = id; precision = None })
member_pushed es mid after ps now p e last first total d id rows flat view ends last_is total_is
    first_is e_is mid_is now_is placed_rows links =
    let row : Row = record { depth = d; kind = Kind.Point; id = id; precision = None } in
    let kept_node : KeptNode = record { placed = record { row = row; first = first; points = 1 }; next = e.next } in
    let deepest = (member_node es ps rows d (is_some id) view ends).1 in
    let size : length (depths_in es) ≡ total = length-depths_in es ∙ total_is in
    let end : last + 1 ≡ length (depths_in es) = omega (arith, last_is, size) in
    let here : get_or (depths_in es) last 0 ≡ d = omega (arith, last_depth (depths_in es) last end, deepest) in
    let up : get_or (links_in es) last 0 ≡ e.next.0 = link_in es last e (omega (arith, last_is, total_is)) e_is in
    let made : Linked (depths_in es ++ d ∷ []) (set
    (links_in es ++ get_or (links_in es) last 0 ∷ []) last (length (depths_in es))) =
    linked_beside (depths_in es) (links_in es) d last flat.linked end here
    (member_last rows d (is_some id) ends).0 in
    let depths : depths_in after ≡ depths_in es ++ d ∷ [] = ap (map placed_depth) placed_rows
    ∙ (ap depths_in mid_is ∙ depths_more es kept_node) in
    let nexts : links_in after ≡ set (links_in es ++ get_or (links_in es) last 0 ∷ []) last (length (depths_in es)) =
    links ∙ (ap (λ (xs : List KeptNode). set (links_in xs) last total) mid_is
    ∙ (ap (λ (ls : List ℕ). set ls last total) (map_push next_of es kept_node)
    ∙ (ap (λ (n : ℕ). set (links_in es ++ n ∷ []) last total) (sym up)
    ∙ ap (λ (n : ℕ). set (links_in es ++ get_or (links_in es) last 0 ∷ []) last n) (sym size)))) in
    record {
      placed_rows = placed_rows ∙ (ap (map placed_of) mid_is ∙ (map_push placed_of es kept_node
          ∙ ap (λ (n : ℕ). map placed_of es ++ record { row = row; first = n; points = 1 } ∷ [])
          (sym first_is)));
      linked = subst (λ (ds : List ℕ). Linked ds (links_in after)) (sym depths)
          (subst (λ (ls : List ℕ). Linked (depths_in es ++ d ∷ []) ls) (sym nexts) made);
      now_is = now_is;
    }

-- the form after the new member, and its rows
pub member_kept : (es after : List KeptNode) (ps now : List Point) (p : Point) (d : ℕ)
    (id : Option ℤ) (rows : List TableRow) → IsFlat es ps → listed (map placed_of es) ps ≡ rows
    → EndsInMember d (is_some id) rows → id_in_range id ≡ true → IsInRange p → length rows < NODES_CAP
    → length (row_points rows) < POINTS_CAP
    → Pushed es after ps (p ∷ []) now (record { depth = d; kind = Kind.Point; id = id; precision = None })
    → IsFlat after now × (listed (map placed_of after) now ≡ rows ++ plain_row d Kind.Point id (p ∷ []) ∷ [])
member_kept es after ps now p d id rows flat view ends range in_range few room pushed =
    let row : Row = record { depth = d; kind = Kind.Point; id = id; precision = None } in
    let continues = member_continues rows d id p (subst (AreValidRowsOfOne largest_limits) view
    flat.valid) ends range in_range few room in (
      flat_after es after ps (p ∷ []) now row rows flat view continues pushed,
      view_after es after ps
          (p ∷ []) now row rows flat view pushed,
    )

-- one more row and point, after which more members may come
pub member_added : (rows more : List TableRow) (d : ℕ) (id : Option ℤ) (p : Point)
    → more ≡ rows ++ plain_row d Kind.Point id (p ∷ []) ∷ [] → EndsInMember d (is_some id) rows
    → EndsInMember d (is_some id) more × (length more ≡ length rows + 1)
    × (length (row_points more) ≡ length (row_points rows) + 1)
member_added rows more d id p added ends =
    let r = plain_row d Kind.Point id (p ∷ []) in
    let points = ap (λ ps. length ps) (row_points-append rows (r ∷ []))
    ∙ length-append (row_points rows) (row_points (r ∷ [])) in (
      subst (EndsInMember d (is_some id)) (sym added) (ends_again rows r refl ends),
      ap (λ rs. length rs) added ∙ length_push rows r,
      ap (λ rs. length (row_points rs)) added
          ∙ points,
    )
