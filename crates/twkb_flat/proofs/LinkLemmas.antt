-- The links of kept nodes, the rows that these stand for, and what a returned node says.
use Rattle.std.proofs.Common.{◌≡◌, ℕ, suc, ◌+◌, ◌-◌, ◌<◌, ◌≤◌, ◌⊎◌, inl, inr, List, [], ◌∷◌, ◌++◌, length, set}
use Rattle.std.proofs.Common.{get_or, refl, sym, ap, ◌∙◌, subst, arith, map, take, zero, drop}
use Rattle.std.proofs.lemmas.List.{length-set, length_push, get_or_append_left, get_or_push, get_or-set_same}
use Rattle.std.proofs.lemmas.List.{get_or-set_other, length-map, length-take-le, get_or-map, get_or-take}
use Rattle.std.proofs.lemmas.List.{get_or_default, take_all, take_more, length-append, length-take, length-drop}
use Rattle.std.proofs.lemmas.List.{take-append-drop, take-append-le, drop-append-le}
use Rattle.std.proofs.lemmas.Bool.{cases_lt, cases_eq}
use Rattle.twkb_flat.specs.Rows.{levels, IsNext, IsOpen, OpenPlace, IsUp, Linked, AreClosed, MayFollow, row_with}
use Rattle.twkb_flat.specs.Rows.{depths, IsNode}
use Rattle.twkb_flat.specs.declared.kept_nodes.KeptNode.{KeptNode}
use Rattle.twkb_flat.specs.KeptNodes.{placed_of, next_of, placed_depth, depths_in, links_in, IsUnlinked, listed, Laid}
use Rattle.twkb_points.specs.Point.{Point}
use Rattle.twkb_tree.specs.Rows.{Row as TableRow, row_points}
use Rattle.twkb_flat.specs.declared.kept_nodes.PlacedRow.{PlacedRow}

-- ==== The links stay right when a row is appended.

-- the last row gives the number of open rows
levels_last : (ds : List ℕ) → 0 < length ds → levels ds ≡ get_or ds (length ds - 1) 0 + 1
levels_last [] h = absurd (omega arith)
levels_last (d ∷ []) h = refl
levels_last (d ∷ e ∷ ds) h =
    let last : levels (e ∷ ds) ≡ get_or (e ∷ ds) (length ds) 0 + 1 =
    subst (λ (k : ℕ). levels (e ∷ ds) ≡ get_or (e ∷ ds) k 0 + 1) (omega arith)
    (levels_last (e ∷ ds) (omega arith)) in
    let at : suc (length ds) ≡ length (d ∷ e ∷ ds) - 1 = omega arith in
    subst (λ (k : ℕ). levels (e ∷ ds) ≡ get_or (d ∷ e ∷ ds) k 0 + 1) at last

-- an open row is no deeper than the last
open_depth : (ds : List ℕ) (i : ℕ) → i < length ds → IsOpen ds i → get_or ds i 0 < levels ds
open_depth ds i h is =
    let last = levels_last ds (omega arith) in
    elim (cases_lt i (length ds - 1)) [
      | inl before ↦ (let deeper = is (length ds - 1) before (omega arith) in omega arith)
      | inr at ↦ (let same : i ≡ length ds - 1 = omega arith in
          let e = ap (λ (k : ℕ). get_or ds k 0) same in omega arith)
    ]

-- two open rows of one depth are the same
open_alike : (ds : List ℕ) (i j : ℕ) → i < length ds → j < length ds → IsOpen ds i → IsOpen ds j
    → get_or ds i 0 ≡ get_or ds j 0 → i ≡ j
open_alike ds i j h k is js e =
    elim (cases_lt i j) [
      | inl before ↦ (let deeper = is j before k in absurd (omega arith))
      | inr after ↦ elim (cases_lt j i) [
        | inl before ↦ (let deeper = js i before h in absurd (omega arith))
        | inr at ↦ omega arith
      ]
    ]

-- an open row stays open when a deeper row comes
open_more : (ds : List ℕ) (d i : ℕ) → i < length ds → get_or ds i 0 < d → IsOpen ds i → IsOpen (ds ++ d ∷ []) i
open_more ds d i h deeper is j after within =
    let here = get_or_append_left ds (d ∷ []) 0 i h in
    elim (cases_lt j (length ds)) [
      | inl old ↦ rw (here, get_or_append_left ds (d ∷ []) 0 j old) (is j after old)
      | inr new ↦ (let at : length ds ≡ j = omega (arith, length_push ds d) in
          rw (here, get_or_push ds d 0 j at) deeper)
    ]

-- the link of a closed row stays right
next_more : (ds : List ℕ) (d i m : ℕ) → m < length ds → IsNext ds i m → IsNext (ds ++ d ∷ []) i m
next_more ds d i m within is =
    let here = get_or_append_left ds (d ∷ []) 0 i (omega arith) in
    record {
      after = is.after;
      within = omega (arith, length_push ds d);
      deeper = λ j after before. let old : j < length ds = omega arith in
          rw (here, get_or_append_left ds (d ∷ []) 0 j old) (is.deeper j after before);
      ends = λ _. rw (here, get_or_append_left ds (d ∷ []) 0 m within) (is.ends within);
    }

-- an open row ends when a row comes that is no deeper
next_closed : (ds : List ℕ) (d i : ℕ) → i < length ds → d ≤ get_or ds i 0 → IsOpen ds i
    → IsNext (ds ++ d ∷ []) i (length ds)
next_closed ds d i h shallow is =
    let here = get_or_append_left ds (d ∷ []) 0 i h in
    record {
      after = h;
      within = omega (arith, length_push ds d);
      deeper = λ j after old. rw (here, get_or_append_left ds (d ∷ []) 0 j old) (is j after old);
      ends = λ _. rw (here, get_or_push ds d 0 (length ds) refl) shallow;
    }

-- the end is the row after the subtree of an open row
pub open_next : (ds : List ℕ) (i : ℕ) → i < length ds → IsOpen ds i → IsNext ds i (length ds)
open_next ds i h is = record {
  after = h;
  within = omega arith;
  deeper = λ j after before. is j after before;
  ends = λ e. absurd (omega arith);
}

-- ---- open rows

-- the link of one row
abbrev pub Link : List ℕ → ℕ → ℕ → Type 0
Link ds i m = (IsOpen ds i × IsUp ds i m) ⊎ (IsNext ds i m × (m < length ds))

-- the last row is open
pub last_open : (ds : List ℕ) (i : ℕ) → i + 1 ≡ length ds → OpenPlace ds (get_or ds i 0) i
last_open ds i at = record { within = omega arith; depth = refl; is_open = λ j after within. absurd (omega arith) }

-- the depth of the last row is one below the number of levels
pub last_depth : (ds : List ℕ) (i : ℕ) → i + 1 ≡ length ds → levels ds ≡ get_or ds i 0 + 1
last_depth ds i at = let same : length ds - 1 ≡ i = omega arith in levels_last ds (omega arith)
    ∙ ap (λ (k : ℕ). get_or ds k 0 + 1) same

-- the link of an open row leads up
open_up : (ds : List ℕ) (i m : ℕ) → IsOpen ds i → Link ds i m → IsUp ds i m
open_up ds i m is (inl (open_i, up)) = up
open_up ds i m is (inr (next, within)) = let deeper = is m next.after within in
    let shallow = next.ends within in absurd (omega arith)

-- the link of an open row leads to its parent
pub up_from : (ds nexts : List ℕ) (d i : ℕ) → Linked ds nexts → OpenPlace ds (d + 1) i
    → OpenPlace ds d (get_or nexts i 0)
up_from ds nexts d i linked at = (open_up ds i (get_or nexts i 0) at.is_open
    (linked.links i at.within)).parent d at.depth

-- the link of an open row leads no further than its own place
pub up_before : (ds nexts : List ℕ) (d i : ℕ) → Linked ds nexts → OpenPlace ds d i → get_or nexts i 0 ≤ i
up_before ds nexts d i linked at = (open_up ds i (get_or nexts i 0) at.is_open (linked.links i at.within)).before

-- the link of an open row below the root leads before it
pub up_less : (ds nexts : List ℕ) (d i : ℕ) → Linked ds nexts → OpenPlace ds (d + 1) i → get_or nexts i 0 < i
up_less ds nexts d i linked at =
    let le = up_before ds nexts (d + 1) i linked at in
    let up = up_from ds nexts d i linked at in
    elim (cases_lt (get_or nexts i 0) i) [
      | inl less ↦ less
      | inr not_less ↦ (let same : get_or nexts i 0 ≡ i = omega arith in
          let e = ap (λ (k : ℕ). get_or ds k 0) same in absurd (omega (arith, up.depth, at.depth)))
    ]

-- ---- closing rows

-- no row is closed yet
pub none_closed : (ds nexts : List ℕ) (d next : ℕ) → d ≡ levels ds → AreClosed ds nexts nexts d next
none_closed ds nexts d next deep = record {
  shut = λ i within is le. let below = open_depth ds i within is in absurd (omega arith);
  kept = λ i within h. refl;
}

-- one more row is closed
pub one_closed : (ds nexts after : List ℕ) (d at next : ℕ) → OpenPlace ds d at
    → length ds ≤ length after → AreClosed ds nexts after (d + 1) next
    → AreClosed ds nexts (set after at next) d next
one_closed ds nexts after d at next is_at room so_far = record {
  shut = λ i within is le. elim (cases_eq i at) [
    | inl same ↦ subst (λ (k : ℕ). get_or (set after at next) k 0 ≡ next) (sym same)
        (get_or-set_same after at next 0 (omega (arith, is_at.within)))
    | inr other ↦
        (let deeper : d + 1 ≤ get_or ds i 0 = elim (cases_lt d (get_or ds i 0)) [
          | inl less ↦ omega (arith, less)
          | inr not_less ↦ absurd
              (other (open_alike ds i at within is_at.within is is_at.is_open
              (omega (arith, is_at.depth))))
        ] in
        get_or-set_other after at i next 0 other ∙ so_far.shut i within is deeper)
  ];
  kept = λ i within h.
      (let other : i ≡ at → ⊥ = λ e. let same = ap (λ (k : ℕ). get_or ds k 0) e in
      let less = h (subst (λ (k : ℕ). IsOpen ds k) (sym e) is_at.is_open) in
      omega (arith, is_at.depth) in
      get_or-set_other after at i next 0 other ∙ so_far.kept i within (λ is. let less = h is in omega arith));
}

-- an open row that is not closed yet keeps its link
pub link_kept : (ds nexts after : List ℕ) (d at next : ℕ) → OpenPlace ds d at
    → AreClosed ds nexts after (d + 1) next → get_or after at 0 ≡ get_or nexts at 0
link_kept ds nexts after d at next is_at so_far = so_far.kept at is_at.within (λ is. omega (arith, is_at.depth))

-- ---- one more row

-- an open place stays open when a deeper row comes
place_more : (ds : List ℕ) (d e i : ℕ) → e < d → OpenPlace ds e i → OpenPlace (ds ++ d ∷ []) e i
place_more ds d e i lt at = record {
  within = omega (arith, at.within, length_push ds d);
  depth = get_or_append_left ds (d ∷ []) 0 i at.within ∙ at.depth;
  is_open = open_more ds d i at.within (omega (arith, at.depth)) at.is_open;
}

-- the parent of an open row stays its parent
up_more : (ds : List ℕ) (d i m : ℕ) → i < length ds → get_or ds i 0 < d → IsUp ds i m → IsUp (ds ++ d ∷ []) i m
up_more ds d i m within shallow up =
    let here = get_or_append_left ds (d ∷ []) 0 i within in
    record {
      before = up.before;
      parent = λ e is. place_more ds d e m (omega (arith, here))
          (up.parent e (sym here ∙ is));
    }

-- the rows before the new one have the right links
old_link : (ds nexts after : List ℕ) (d i : ℕ) → i < length ds
    → AreClosed ds nexts after d (length ds) → Link ds i (get_or nexts i 0)
    → Link (ds ++ d ∷ []) i (get_or after i 0)
old_link ds nexts after d i within closed (inr (next, less)) =
    let same = closed.kept i within (λ is. let deeper = is (get_or nexts i 0) next.after less in
    let shallow = next.ends less in omega arith) in
    subst (λ (m : ℕ). Link (ds ++ d ∷ []) i m) (sym same)
    (inr (next_more ds d i (get_or nexts i 0) less next, omega (arith, length_push ds d)))
old_link ds nexts after d i within closed (inl (is, up)) =
    elim (cases_lt (get_or ds i 0) d) [
      | inl shallow ↦
          (let same = closed.kept i within (λ _. shallow) in
          subst (λ (m : ℕ). Link (ds ++ d ∷ []) i m) (sym same)
          (inl (
            open_more ds d i within shallow is,
            up_more ds d i (get_or nexts i 0) within
                shallow up,
          )))
      | inr deep ↦
          (let same = closed.shut i within is (omega arith) in
          subst (λ (m : ℕ). Link (ds ++ d ∷ []) i m) (sym same)
          (inr (next_closed ds d i within (omega arith) is, omega (arith, length_push ds d))))
    ]

-- the links with one more row are right
pub linked_push : (ds nexts after : List ℕ) (d up : ℕ) → Linked ds nexts → MayFollow ds d
    → length after ≡ length ds + 1 → AreClosed ds nexts after d (length ds)
    → get_or after (length ds) 0 ≡ up → up ≤ length ds → ((e : ℕ) → d ≡ e + 1 → OpenPlace ds e up)
    → Linked (ds ++ d ∷ []) after
linked_push ds nexts after d up linked place size closed is_up before parent = record {
  same = omega (arith, size, length_push ds d);
  links = λ i within. elim (cases_lt i (length ds)) [
    | inl old ↦ old_link ds nexts after d i old closed (linked.links i old)
    | inr new ↦
        (let at : length ds ≡ i = omega (arith, length_push ds d) in
        let here = get_or_push ds d 0 (length ds) refl in
        subst (λ (k : ℕ). Link (ds ++ d ∷ []) k (get_or after k 0)) at
        (subst (λ (m : ℕ). Link (ds ++ d ∷ []) (length ds) m) (sym is_up) (inl (
          λ j after_it inside. absurd (omega (arith, length_push ds d)),
          record {
            before = before;
            parent = λ e is. place_more ds d e up (omega (arith, here))
                (parent e (sym here ∙ is));
          },
        ))))
  ];
  steps = λ i within. elim (cases_lt (i + 1) (length ds)) [
    | inl old ↦
        (let here : i < length ds = omega arith in
        rw (get_or_append_left ds (d ∷ []) 0 (i + 1) old, get_or_append_left ds (d ∷ []) 0 i here) (linked.steps i old))
    | inr new ↦
        (let here : i < length ds = omega (arith, length_push ds d) in
        let at : length ds ≡ i + 1 = omega (arith, length_push ds d) in
        let last = last_depth ds i (sym at) in
        rw (get_or_push ds d 0 (i + 1) at, get_or_append_left ds (d ∷ []) 0 i here) (omega (arith, place.step)))
  ];
}

-- the links with one more row beside the last are right
pub linked_beside : (ds nexts : List ℕ) (d last : ℕ) → Linked ds nexts → last + 1 ≡ length ds
    → get_or ds last 0 ≡ d → 0 < d → Linked (ds ++ d ∷ [])
    (set (nexts ++ get_or nexts last 0 ∷ []) last (length ds))
linked_beside ds nexts d last linked end here deep =
    let up = get_or nexts last 0 in
    let more = nexts ++ up ∷ [] in
    let size : length more ≡ length ds + 1 = omega (arith, linked.same, length_push nexts up) in
    let is_last = subst (λ (k : ℕ). OpenPlace ds k last) here (last_open ds last end) in
    let deepest = last_depth ds last end in
    let shut = one_closed ds more more d last (length ds) is_last (omega (arith, size))
    (none_closed ds more (d + 1) (length ds) (omega (arith, deepest, here))) in
    let parent : (e : ℕ) → d ≡ e + 1 → OpenPlace ds e up = λ e is. up_from ds nexts e last linked
    (subst (λ (k : ℕ). OpenPlace ds k last) is is_last) in
    let above = parent (d - 1) (omega (arith, deep)) in
    let own : get_or (set more last (length ds)) (length ds) 0 ≡ up = get_or-set_other more last
    (length ds) (length ds) 0 (λ e. omega (arith, end, e))
    ∙ get_or_push nexts up 0 (length ds) linked.same in
    linked_push ds nexts (set more last (length ds)) d up linked
    (record { step = omega (arith, deepest, here); below = λ some. deep })
    (length-set more last (length ds) ∙ size)
    (record {
      shut = shut.shut;
      kept = λ i within h. shut.kept i within h
          ∙ get_or_append_left nexts (up ∷ []) 0 i (omega (arith, within, linked.same));
    })
    own (omega (arith, above.within)) parent

-- ==== The walk along the open nodes, from the last one up through its parents.

-- there are as many depths as kept nodes
pub length-depths_in : (es : List KeptNode) → length (depths_in es) ≡ length es
length-depths_in es = length-map _ _ ∙ length-map _ _

-- the depth of one kept node
pub depth_in : (es : List KeptNode) (i : ℕ) (e : KeptNode) → i < length es → e ≡ get_or es i e
    → get_or (depths_in es) i 0 ≡ e.placed.row.depth
depth_in es i e h is = get_or-map placed_depth (map placed_of es) i e.placed 0 (rw length-map h)
    ∙ ap placed_depth (get_or-map placed_of es i e e.placed h ∙ sym (ap placed_of is))

-- the link of one kept node
pub link_in : (es : List KeptNode) (i : ℕ) (e : KeptNode) → i < length es → e ≡ get_or es i e
    → get_or (links_in es) i 0 ≡ e.next.0
link_in es i e h is = get_or-map next_of es i e 0 h ∙ sym (ap next_of is)

-- there is an open row at a place, at this depth or below it
pub record Rising (es : List KeptNode) (depth at : ℕ) : Type 0 where
  pub stands : OpenPlace (depths_in es) (get_or (depths_in es) at 0) at
  pub below : depth ≤ get_or (depths_in es) at 0

-- there is a kept node at the place
pub rising_within : (es : List KeptNode) (depth at : ℕ) → Rising es depth at → at < length es
rising_within es depth at rising = omega (arith, rising.stands.within, length-depths_in es)

-- there is a kept node if a row is open
pub some_node : (es : List KeptNode) (depth : ℕ) → depth < levels (depths_in es) → 0 < length es
some_node [] depth h = absurd (omega (arith, h))
some_node (e ∷ es) depth h = omega arith

-- the walk begins at the last row
pub rising_last : (es : List KeptNode) (depth at : ℕ) → at + 1 ≡ length es
    → depth < levels (depths_in es) → Rising es depth at
rising_last es depth at last within =
    let end : at + 1 ≡ length (depths_in es) = omega (arith, last, length-depths_in es) in
    record { stands = last_open (depths_in es) at end; below = omega (arith, within, last_depth (depths_in es) at end) }

-- the walk goes on to the parent of an open row
pub rising_up : (es : List KeptNode) (depth at : ℕ) (e : KeptNode)
    → Linked (depths_in es) (links_in es) → Rising es depth at → at < length es → e ≡ get_or es at e
    → depth < e.placed.row.depth → Rising es depth e.next.0 × (e.next.0 < at)
rising_up es depth at e linked rising h is deeper =
    let ds = depths_in es in
    let here = depth_in es at e h is in
    let above : OpenPlace ds ((get_or ds at 0 - 1) + 1) at = subst (λ (d : ℕ). OpenPlace ds d at)
    (omega (arith, here, deeper)) rising.stands in
    let up = up_from ds (links_in es) (get_or ds at 0 - 1) at linked above in
    let less = up_less ds (links_in es) (get_or ds at 0 - 1) at linked above in
    let found = subst (λ (k : ℕ). Rising es depth k × (k < at)) (link_in es at e h is) in
    found (
      record {
        stands = subst (λ (d : ℕ). OpenPlace ds d (get_or (links_in es) at 0))
            (sym up.depth) up;
        below = omega (arith, up.depth, here, deeper);
      },
      less,
    )

-- the walk has reached the open row at this depth
pub rising_there : (es : List KeptNode) (depth at : ℕ) (e : KeptNode) → Rising es depth at
    → at < length es → e ≡ get_or es at e → e.placed.row.depth ≤ depth
    → OpenPlace (depths_in es) depth at
rising_there es depth at e rising h is shallow =
    let here = depth_in es at e h is in
    subst (λ (d : ℕ). OpenPlace (depths_in es) d at) (omega (arith, here, shallow, rising.below)) rising.stands

-- the kept nodes so far: among the first `next`, the open ones below the one at the place are closed
pub record Closing (before es : List KeptNode) (depth at next : ℕ) : Type 0 where
  pub placed_rows : map placed_of es ≡ map placed_of before
  pub stands : OpenPlace (take next (depths_in before)) (get_or (take next (depths_in before)) at 0) at
  pub above : depth ≤ get_or (take next (depths_in before)) at 0 + 1
  pub closed : AreClosed (take next (depths_in before)) (take next (links_in before)) (links_in es)
      (get_or (take next (depths_in before)) at 0 + 1) next

-- at the last row nothing is closed yet
pub closing_last : (es : List KeptNode) (depth at next : ℕ) → at + 1 ≡ next → next ≤ length es
    → MayFollow (take next (depths_in es)) depth → Closing es es depth at next
closing_last es depth at next last within place =
    let ds = take next (depths_in es) in
    let end : at + 1 ≡ length ds = omega (
      arith,
      last,
      within,
      length-depths_in es,
      length-take-le next (depths_in es),
    ) in
    let deepest = last_depth ds at end in
    record {
      placed_rows = refl;
      stands = last_open ds at end;
      above = omega (arith, deepest, place.step);
      closed = record {
        shut = λ i inside is le. (none_closed ds (links_in es) (get_or ds at 0 + 1) next
            (sym deepest)).shut i inside is le;
        kept = λ i inside h. sym (get_or-take next (links_in es) i 0
            (omega (arith, inside, length-take-le next (depths_in es))));
      };
    }

-- there is a kept node at the place
pub closing_within : (before es : List KeptNode) (depth at next : ℕ)
    → Closing before es depth at next → next ≤ length before → at < length es
closing_within before es depth at next so_far within =
    omega (
      arith,
      within,
      so_far.stands.within,
      length-take-le next (depths_in before)
          (omega (arith, within, length-depths_in before)),
      length-map es placed_of,
      length-map before placed_of,
      ap length so_far.placed_rows,
    )

-- the kept node read is the one at the place
pub read_here : (es : List KeptNode) (at : ℕ) (blank : KeptNode) → at < length es
    → get_or es at blank ≡ get_or es at (get_or es at blank)
read_here es at blank h = get_or_default es at blank (get_or es at blank) h

-- the depth of one of the first kept nodes
early_depth : (before es : List KeptNode) (at next : ℕ) (e : KeptNode)
    → map placed_of es ≡ map placed_of before → at < next → at < length es → e ≡ get_or es at e
    → get_or (take next (depths_in before)) at 0 ≡ e.placed.row.depth
early_depth before es at next e placed_rows early h is = get_or-take next (depths_in before) at 0 early
    ∙ ap (λ ss. get_or (map placed_depth ss) at 0) (sym placed_rows) ∙ depth_in es at e h is

-- one more row is closed, and its parent comes next
pub record Closed (before es : List KeptNode) (depth at next up : ℕ) : Type 0 where
  pub now : Closing before es depth up next
  pub less : up < at

pub closing_up : (before es after : List KeptNode) (depth at next : ℕ) (e : KeptNode)
    → Linked (take next (depths_in before)) (take next (links_in before))
    → MayFollow (take next (depths_in before)) depth → 0 < next → next ≤ length before
    → Closing before es depth at next → at < length es → e ≡ get_or es at e → depth ≤ e.placed.row.depth
    → map placed_of after ≡ map placed_of es → links_in after ≡ set (links_in es) at next
    → Closed before after depth at next e.next.0
closing_up before es after depth at next e linked place some within so_far h is deep placed_rows links =
    let ds = take next (depths_in before) in
    let ns = take next (links_in before) in
    let size : length ds ≡ next = length-take-le next (depths_in before)
    (omega (arith, within, length-depths_in before)) in
    let early : at < next = omega (arith, size, so_far.stands.within) in
    let here = early_depth before es at next e so_far.placed_rows early h is in
    let d = get_or ds at 0 in
    let above : OpenPlace ds ((d - 1) + 1) at = subst (λ (k : ℕ). OpenPlace ds k at)
    (omega (arith, here, deep, place.below, size)) so_far.stands in
    let kept : e.next.0 ≡ get_or ns at 0 = sym (link_in es at e h is)
    ∙ link_kept ds ns (links_in es) d at next so_far.stands so_far.closed in
    let up = up_from ds ns (d - 1) at linked above in
    let less = up_less ds ns (d - 1) at linked above in
    let room : length ds ≤ length (links_in es) = omega (
      arith,
      size,
      within,
      length-map es next_of,
      length-map es placed_of,
      length-map before placed_of,
      ap length so_far.placed_rows,
    ) in
    let shut = one_closed ds ns (links_in es) d at next so_far.stands room so_far.closed in
    let now : Closing before after depth (get_or ns at 0) next = record {
      placed_rows = placed_rows ∙ so_far.placed_rows;
      stands = subst (λ (k : ℕ). OpenPlace ds k (get_or ns at 0)) (sym up.depth) up;
      above = omega (arith, up.depth, here, deep);
      closed = subst (λ (k : ℕ). AreClosed ds ns (links_in after) k next)
          (omega (arith, up.depth, here, deep, place.below, size))
          (subst (λ ls. AreClosed ds ns ls d next) (sym links) shut);
    } in
    record {
      now = subst (λ (k : ℕ). Closing before after depth k next) (sym kept) now;
      less = omega (arith, kept, less);
    }

-- the walk ends at this row
pub record Done (before es : List KeptNode) (depth at next : ℕ) : Type 0 where
  pub closed : AreClosed (take next (depths_in before)) (take next (links_in before)) (links_in es) depth next
  pub above : (e : ℕ) → depth ≡ e + 1 → OpenPlace (take next (depths_in before)) e at

pub closing_done : (before es : List KeptNode) (depth at next : ℕ) (e : KeptNode)
    → Closing before es depth at next → next ≤ length before → at < length es → e ≡ get_or es at e
    → e.placed.row.depth < depth → Done before es depth at next
closing_done before es depth at next e so_far within h is shallow =
    let ds = take next (depths_in before) in
    let size : length ds ≡ next = length-take-le next (depths_in before)
    (omega (arith, within, length-depths_in before)) in
    let here = early_depth before es at next e so_far.placed_rows (omega (arith, size, so_far.stands.within)) h is in
    record {
      closed = subst (λ (k : ℕ). AreClosed ds (take next (links_in before)) (links_in es) k next)
          (omega (arith, here, shallow, so_far.above)) so_far.closed;
      above = λ k eq. subst (λ (m : ℕ). OpenPlace ds m at)
          (omega (arith, here, shallow, so_far.above, eq)) so_far.stands;
    }

-- ==== The last kept node gets its link, and the open kept nodes that end before it get theirs.

-- a list is its elements but the last, and the last
last_apart : (ds : List ℕ) (n : ℕ) → length ds ≡ n + 1 → take n ds ++ get_or ds n 0 ∷ [] ≡ ds
last_apart ds n size = sym (take_more ds n 0 (omega (arith, size))) ∙ take_all (n + 1) ds (omega (arith, size))

-- setting a link past the end closes the same rows
closed_set : (ds nexts after : List ℕ) (d next at up : ℕ) → length ds ≤ at
    → AreClosed ds nexts after d next → AreClosed ds nexts (set after at up) d next
closed_set ds nexts after d next at up behind closed = record {
  shut = λ i within is le. get_or-set_other after at i up 0 (λ e. omega arith) ∙ closed.shut i within is le;
  kept = λ i within h. get_or-set_other after at i up 0 (λ e. omega arith) ∙ closed.kept i within h;
}

-- the links with the last one
pub last_linked : (es mid : List KeptNode) (at up : ℕ) → IsUnlinked es at → map placed_of mid ≡ map placed_of es
    → AreClosed (take at (depths_in es)) (take at (links_in es)) (links_in mid) (get_or (depths_in es) at 0) at
    → up ≤ at → ((e : ℕ) → get_or (depths_in es) at 0 ≡ e + 1
    → OpenPlace (take at (depths_in es)) e up) → Linked (depths_in es) (set (links_in mid) at up)
last_linked es mid at up unlinked placed_rows closed before parent =
    let ds = take at (depths_in es) in
    let d = get_or (depths_in es) at 0 in
    let all : length (depths_in es) ≡ at + 1 = length-depths_in es ∙ unlinked.last in
    let size : length ds ≡ at = length-take-le at (depths_in es) (omega (arith, all)) in
    let links : length (links_in mid) ≡ at + 1 = omega (
      arith,
      unlinked.last,
      length-map mid next_of,
      length-map mid placed_of,
      length-map es placed_of,
      ap length placed_rows,
    ) in
    let made : Linked (ds ++ d ∷ []) (set (links_in mid) at up) = linked_push ds
    (take at (links_in es)) (set (links_in mid) at up) d up unlinked.linked unlinked.place
    (length-set (links_in mid) at up ∙ omega (arith, links, size))
    (subst (λ (n : ℕ). AreClosed ds (take at (links_in es)) (set (links_in mid) at up) d n)
    (sym size) (closed_set ds (take at (links_in es)) (links_in mid) d at at up
    (omega (arith, size)) closed))
    (subst (λ (n : ℕ). get_or (set (links_in mid) at up) n 0 ≡ up) (sym size)
    (get_or-set_same (links_in mid) at up 0 (omega (arith, links))))
    (omega (arith, size, before)) parent in
    subst (λ (xs : List ℕ). Linked xs (set (links_in mid) at up)) (last_apart (depths_in es) at all) made

-- the link of a row that is alone
pub root_linked : (es : List KeptNode) → IsUnlinked es 0 → Linked (depths_in es) (set (links_in es) 0 0)
root_linked es unlinked =
    let step = unlinked.place.step in
    last_linked es es 0 0 unlinked refl
    (record {
      shut = λ i within is le. absurd (omega arith);
      kept = λ i within h. absurd (omega arith);
    }) (omega arith)
    (λ e is. absurd (omega (arith, is, step)))

-- the link of a row after others
pub other_linked : (es mid : List KeptNode) (at up : ℕ) → IsUnlinked es at → (at ≡ 0 → ⊥)
    → map placed_of mid ≡ map placed_of es
    → AreClosed (take at (depths_in es)) (take at (links_in es)) (links_in mid) (get_or (depths_in es) at 0) at
    → ((e : ℕ) → get_or (depths_in es) at 0 ≡ e + 1 → OpenPlace (take at (depths_in es)) e up)
    → Linked (depths_in es) (set (links_in mid) at up)
other_linked es mid at up unlinked some placed_rows closed parent =
    let size : length (take at (depths_in es)) ≡ at = length-take-le at (depths_in es)
    (omega (arith, length-depths_in es, unlinked.last)) in
    let deep : 0 < get_or (depths_in es) at 0 = unlinked.place.below (omega (arith, size, some)) in
    let above = parent (get_or (depths_in es) at 0 - 1) (omega (arith, deep)) in
    last_linked es mid at up unlinked placed_rows closed (omega (arith, above.within, size)) parent

-- the link of a row after others, for a depth that was read
pub read_linked : (es mid : List KeptNode) (at up : ℕ) (blank : KeptNode) → IsUnlinked es at
    → (at ≡ 0 → ⊥) → map placed_of mid ≡ map placed_of es
    → AreClosed (take at (depths_in es)) (take at (links_in es)) (links_in mid) (get_or es at blank).placed.row.depth at
    → ((e : ℕ) → (get_or es at blank).placed.row.depth ≡ e + 1
    → OpenPlace (take at (depths_in es)) e up) → Linked (depths_in es) (set (links_in mid) at up)
read_linked es mid at up blank unlinked some placed_rows closed parent =
    let h : at < length es = omega (arith, unlinked.last) in
    let depth = depth_in es at (get_or es at blank) h (read_here es at blank h) in
    other_linked es mid at up unlinked some placed_rows
    (subst (λ (d : ℕ). AreClosed (take at (depths_in es)) (take at (links_in es)) (links_in mid)
    d at) (sym depth) closed) (λ e is. parent e (sym depth ∙ is))

-- ==== The rows that kept nodes stand for.

-- there is one row for each placed row
pub length-listed : (ss : List PlacedRow) (ps : List Point) → length (listed ss ps) ≡ length ss
length-listed [] ps = refl
length-listed (s ∷ ss) ps = ap suc (length-listed ss (drop s.points ps))

-- each row has the depth of its placed row
pub depths-listed : (ss : List PlacedRow) (ps : List Point) → depths (listed ss ps) ≡ map placed_depth ss
depths-listed [] ps = refl
depths-listed (s ∷ ss) ps = ap (λ (ds : List ℕ). placed_depth s ∷ ds) (depths-listed ss (drop s.points ps))

-- the total is at least the place where the first placed row begins
pub laid_within : (at total : ℕ) (ss : List PlacedRow) → Laid at ss total → at ≤ total
laid_within at total [] e = omega arith
laid_within at total (s ∷ ss) (first, rest) = let more = laid_within (at + s.points) total ss rest in omega arith

-- all points are those of the rows, from a place on
points-listed : (at : ℕ) (ss : List PlacedRow) (ps : List Point) → Laid at ss (at + length ps)
    → row_points (listed ss ps) ≡ ps
points-listed at [] [] laid = refl
points-listed at [] (p ∷ ps) laid = absurd (omega arith)
points-listed at (s ∷ ss) ps (first, rest) =
    let within = laid_within (at + s.points) (at + length ps) ss rest in
    let total : at + length ps ≡ (at + s.points) + length (drop s.points ps) = omega (arith, length-drop s.points ps) in
    ap (λ (qs : List Point). take s.points ps ++ qs)
    (points-listed (at + s.points) ss (drop s.points ps)
    (subst (λ (t : ℕ). Laid (at + s.points) ss t) total rest))
    ∙ take-append-drop s.points ps

-- all points are those of the rows
pub flat_points : (ss : List PlacedRow) (ps : List Point) → Laid 0 ss (length ps) → row_points (listed ss ps) ≡ ps
flat_points ss ps laid = points-listed 0 ss ps (subst (λ (n : ℕ). Laid 0 ss n) (omega arith) laid)

-- the rows with one more placed row
pub listed-push : (at : ℕ) (ss : List PlacedRow) (ps qs : List Point) (s : PlacedRow)
    → Laid at ss (at + length ps) → s.points ≡ length qs
    → listed (ss ++ s ∷ []) (ps ++ qs) ≡ listed ss ps ++ row_with s.row qs ∷ []
listed-push at [] [] qs s laid count = ap (λ (own : List Point). row_with s.row own ∷ [])
    (take_all s.points qs (omega arith))
listed-push at [] (p ∷ ps) qs s laid count = absurd (omega arith)
listed-push at (t ∷ ss) ps qs s (first, rest) count =
    let within = laid_within (at + t.points) (at + length ps) ss rest in
    let fits : t.points ≤ length ps = omega arith in
    let total : at + length ps ≡ (at + t.points) + length (drop t.points ps) = omega (arith, length-drop t.points ps) in
    rw (take-append-le t.points ps qs fits, drop-append-le t.points ps qs fits)
    (ap (λ (rs : List TableRow). row_with t.row (take t.points ps) ∷ rs)
    (listed-push (at + t.points) ss (drop t.points ps) qs s
    (subst (λ (k : ℕ). Laid (at + t.points) ss k) total rest) count))

-- the placed rows with one more, which comes after the others
pub laid-push : (at total : ℕ) (ss : List PlacedRow) (s : PlacedRow) → Laid at ss total
    → s.first ≡ total → Laid at (ss ++ s ∷ []) (total + s.points)
laid-push at total [] s e first = (first ∙ sym e, ap (λ (k : ℕ). k + s.points) e)
laid-push at total (t ∷ ss) s (here, rest) first = (here, laid-push (at + t.points) total ss s rest first)

-- the rows from a place on
pub record Here (at : ℕ) (ss : List PlacedRow) (ps : List Point) (i : ℕ) (s : PlacedRow) : Type 0 where
  pub own : List Point
  pub rest : List TableRow
  pub here : drop i (listed ss ps) ≡ row_with s.row own ∷ rest
  pub count : length own ≡ s.points
  pub first : at + length (row_points (take i (listed ss ps))) ≡ s.first

-- the rows from each place on
pub row_at : (at : ℕ) (ss : List PlacedRow) (ps : List Point) (i : ℕ) (d : PlacedRow)
    → Laid at ss (at + length ps) → i < length ss → Here at ss ps i (get_or ss i d)
row_at at [] ps i d laid h = absurd (omega arith)
row_at at (s ∷ ss) ps zero d (first, rest) h =
    let within = laid_within (at + s.points) (at + length ps) ss rest in
    record {
      own = take s.points ps;
      rest = listed ss (drop s.points ps);
      here = refl;
      count = omega (arith, length-take s.points ps);
      first = omega arith;
    }
row_at at (s ∷ ss) ps (suc i) d (first, rest) h =
    let within = laid_within (at + s.points) (at + length ps) ss rest in
    let total : at + length ps ≡ (at + s.points) + length (drop s.points ps) = omega (arith, length-drop s.points ps) in
    let below = row_at (at + s.points) ss (drop s.points ps) i d
    (subst (λ (k : ℕ). Laid (at + s.points) ss k) total rest) (omega arith) in
    record {
      own = below.own;
      rest = below.rest;
      here = below.here;
      count = below.count;
      first = omega (
        arith,
        below.first,
        length-append (take s.points ps)
            (row_points (take i (listed ss (drop s.points ps)))),
        length-take s.points ps,
      );
    }

-- without placed rows there are no rows
pub nil_rows : (ss : List PlacedRow) (ps : List Point) → length ss ≡ 0 → listed ss ps ≡ []
nil_rows [] ps e = refl
nil_rows (s ∷ ss) ps e = absurd (omega arith)

-- with a placed row there is a row
pub some_rows : (ss : List PlacedRow) (ps : List Point) → listed ss ps ≡ [] → length ss ≡ 0
some_rows [] ps e = refl
some_rows (s ∷ ss) ps e = cc

-- ==== What a node returned by a flat form says about the rows.

-- the link returned: for a row whose subtree has ended, it leads after the row's place
abbrev pub Answers : ℕ → ℕ → ℕ → ℕ → Type 0
Answers i kept total next = ((kept ≤ i) × (next ≡ total)) ⊎ ((i < kept) × (next ≡ kept))

-- the link returned leads after the subtree
next_is : (ds : List ℕ) (i kept total next : ℕ) → i < length ds → total ≡ length ds → Link ds i kept
    → Answers i kept total next → IsNext ds i next
next_is ds i kept total next h t (inl (is, up)) (inl (le, e)) = subst (λ (n : ℕ). IsNext ds i n)
    (sym (e ∙ t)) (open_next ds i h is)
next_is ds i kept total next h t (inl (is, up)) (inr (lt, e)) = let before = up.before in absurd (omega arith)
next_is ds i kept total next h t (inr (is, within)) (inl (le, e)) = let after = is.after in absurd (omega arith)
next_is ds i kept total next h t (inr (is, within)) (inr (lt, e)) = subst (λ (n : ℕ). IsNext ds i n) (sym e) is

-- the node of a kept node
pub node_is : (es : List KeptNode) (ps : List Point) (i next : ℕ) (e : KeptNode) (rows : List TableRow)
    → Laid 0 (map placed_of es) (length ps) → Linked (depths_in es) (links_in es)
    → listed (map placed_of es) ps ≡ rows → i < length es → e ≡ get_or es i e
    → Answers i e.next.0 (length es) next
    → IsNode rows i (record {
      row = e.placed.row;
      next = record { 0 = next };
      first = record { 0 = e.placed.first };
      points = e.placed.points;
    })
node_is es ps i next e rows all_laid linked view h is answers =
    let inside : i < length (map placed_of es) = rw length-map h in
    let laid : Laid 0 (map placed_of es) (0 + length ps) =
    subst (λ (n : ℕ). Laid 0 (map placed_of es) n) (omega arith) all_laid in
    let placed : get_or (map placed_of es) i e.placed ≡ e.placed = get_or-map placed_of es i e e.placed h
    ∙ sym (ap placed_of is) in
    let at = subst (λ (s : PlacedRow). Here 0 (map placed_of es) ps i s) placed
    (row_at 0 (map placed_of es) ps i e.placed laid inside) in
    let all = length-depths_in es in
    let link = subst (λ (k : ℕ). Link (depths_in es) i k) (link_in es i e h is)
    (linked.links i (omega (arith, h, all))) in
    let links = next_is (depths_in es) i e.next.0 (length es) next (omega (arith, h, all)) (sym all) link answers in
    subst (λ (rs : List TableRow).
    IsNode rs i (record {
      row = e.placed.row;
      next = record { 0 = next };
      first = record { 0 = e.placed.first };
      points = e.placed.points;
    })) view
    (record {
      own = at.own;
      rest = at.rest;
      here = at.here;
      count = at.count;
      first = omega (arith, at.first);
      next = subst (λ (ds : List ℕ). IsNext ds i next) (sym (depths-listed (map placed_of es) ps)) links;
      child = λ more. subst (λ (ds : List ℕ). get_or ds (i + 1) 0 ≤ e.placed.row.depth + 1)
          (sym (depths-listed (map placed_of es) ps))
          (let step = linked.steps i (omega (arith, length-listed (map placed_of es) ps, length-map es placed_of)) in
          let here = depth_in es i e h is in
          omega arith);
    })
