-- Limits that items keep, and refusals of the machine, which are faults.
use Rattle.std.proofs.Common.{◌≡◌, ℕ, suc, ◌+◌, ◌≤◌, List, [], ◌∷◌, ◌++◌, refl, sym, ◌∙◌, subst, arith, Bool, true}
use Rattle.std.proofs.Common.{false, map, Some, None, inl, inr, length, ap, append_assoc}
use Rattle.std.specs.Prelude.{⊤, ◌↔◌, ℤ, flat_map, sum_by, ◌+ℤ◌}
use Rattle.std.proofs.lemmas.Bool.{cases_lt}
use Rattle.std.specs.List.{AllByRecursion}
use Rattle.twkb_points.specs.Point.{IsCoordinate, Point, IsInRange, origin}
use Rattle.twkb_tree.specs.Tree.{Tree, Simple, point, line, polygon, multi_point, multi_line, multi_polygon, simple}
use Rattle.twkb_tree.specs.Tree.{collection, Trees, end, ◌▷◌, count, Ids, IdsFit, IsTree, AreTrees, flat, flat_all}
use Rattle.twkb_tree.specs.Tree.{points_in, nest, nest_all, nodes}
use Rattle.twkb_tree.proofs.RowLaws.{all_join, all_apart}
use Rattle.twkb_grammar.specs.Bits.{bit}
use Rattle.twkb_grammar.specs.Roles.{Item, Header, Metadata, Count, Geometries, AreFields, item, Role, X, Y, join}
use Rattle.twkb_grammar.specs.Roles.{Counted}
use Rattle.twkb_grammar.specs.Items.{Items, ItemsOfAll, Slot, OfCount, OfId, OfPoint, id_slots, fields, slots, run_of}
use Rattle.twkb_grammar.specs.Items.{rings_of, declared, end_item, header_byte, Flags, flags, flags_all, Agrees}
use Rattle.twkb_grammar.specs.Items.{BodyAt, Framed, Follow, id_fields, AreExact, IsExact}
use Rattle.twkb_grammar.specs.Noting.{before_body}
use Rattle.twkb_grammar.specs.Fault.{IsDeep, Reason, Part, Refused, Fault, FirstFault, announces_point, nodes_by}
use Rattle.twkb_grammar.specs.Fault.{points_by, position, position_from, announced_nodes, announced_points, moved}
use Rattle.twkb_grammar.specs.Machine.{Sums, added, sums_after, Kind, SimpleKind, PointForm, empty_of, nothing}
use Rattle.twkb_grammar.specs.Machine.{started, Stack, role_at, Runs, Finished}
use Rattle.twkb_grammar.specs.Reading.{Here, Kept}
use Rattle.twkb_grammar.proofs.Bodies.{steps, slot_points, points_are, fields_are, form_of, forth, moved_x, moved_y}
use Rattle.twkb_grammar.proofs.Bodies.{moved_id, moved_count, still_options, options_each, framed_whole}
use Rattle.twkb_grammar.proofs.Trees.{left_out, names_steps, some_bare, tree_runs, tree_total, total, total_is}
use Rattle.twkb_grammar.proofs.Trees.{total-append}
use Rattle.std.proofs.lemmas.Int.{ints}
use Rattle.twkb_num.specs.Spelling.{unzigzag_of}
use Rattle.twkb_tree.specs.Limits.{Allowance, IsValid}
use Rattle.twkb_grammar.proofs.BodiesBack.{some_role}
use Rattle.twkb_grammar.proofs.TreesBack.{kept_at}
use Rattle.twkb_grammar.proofs.Parts.{run_on, next_role, run_is_front, filler, filler_number}
use Rattle.twkb_grammar.proofs.Stepping.{Allowed, no_reason}

-- ==== Joined items, and items of roles of which nothing is asked.

-- if joined items are kept, so are the prefix and the rest
pub kept_split : (most : ℕ) (is js : List Item) (e : Sums) → Kept most e (is ++ js) → Kept most e is
    × Kept most (sums_after e is) js
kept_split most [] js e k = (tt, k)
kept_split most (i ∷ is) js e k = let t = kept_split most is js (added e i) k.1 in ((k.0, t.0), t.1)

-- joined items keep depth and range if both lists do
pub Kept-append : (most : ℕ) (is js : List Item) (e : Sums) → Kept most e is
    → Kept most (sums_after e is) js → Kept most e (is ++ js)
Kept-append most [] js e a b = b
Kept-append most (i ∷ is) js e a b = (a.0, Kept-append most is js (added e i) a.1 b)

easy_kept : (most : ℕ) (is : List Item) (e : Sums)
    → AllByRecursion (λ (i : Item). (p : Point) (n : ℕ) → Here most p i.role n) is → Kept most e is
easy_kept most [] e all = tt
easy_kept most (i ∷ is) e all = (all.0 e.position i.number, easy_kept most is (added e i) all.1)

-- a frame keeps depth and range exactly if its body does
framed_keeps : {kind : ℕ} {p : ℤ} {own : Flags} {Body : List Item → Type 0} {is : List Item} (most : ℕ) (e : Sums)
    (f : Framed kind p own Body is) → Kept most e is ↔ Kept most (sums_after e (before_body f)) f.body
framed_keeps {kind} {p} most e f = (
  (λ k. (kept_split most f.body (last ∷ []) (sums_after e (before_body f)) (kept_split most (before_body f)
      (f.body ++ last ∷ []) e (subst (λ l. Kept most e l) (framed_whole f) k)).1).0),
  (λ k. subst (λ l. Kept most e l) (sym (framed_whole f)) (Kept-append most (before_body f) (f.body ++ last ∷ []) e (
    tt,
    (
      tt,
      easy_kept most (f.extended ++ (f.size ++ f.box)) _
          (options_each (λ r. (p : Point) (n : ℕ) → Here most p r n) f.optional (λ p n. tt) (λ p n. tt) (λ p n. tt)),
    ),
  )
      (Kept-append most f.body (last ∷ []) (sums_after e (before_body f)) k (tt, tt)))),
)
  where
    last : Item
    last = end_item (declared f.size) (f.box ++ f.body)

-- a body begins at the origin
framed_place : {kind : ℕ} {p : ℤ} {own : Flags} {Body : List Item → Type 0} {is : List Item} (e : Sums)
    (f : Framed kind p own Body is) → (sums_after e (before_body f)).position ≡ origin
framed_place {kind} {p} e f = still_options f.meta f.extended f.size f.box
    (added (added e (item Header (header_byte kind p))) (item (Metadata kind) f.meta)) f.optional

-- ==== The items of a body.

-- the counts and points of these slots keep depth and range
abbrev SlotsKept : ℕ → List Slot → Type 0
SlotsKept most [] = ⊤
SlotsKept most (OfCount k n ∷ ps) = (IsDeep k most → n ≡ 0) × SlotsKept most ps
SlotsKept most (OfId id ∷ ps) = ⊤ × SlotsKept most ps
SlotsKept most (OfPoint q ∷ ps) = IsCoordinate q.x × (IsCoordinate q.y × SlotsKept most ps)

-- the items of a body keep them exactly if its slots do
body_keeps : (most : ℕ) (p : Point) (ps : List Slot) (is : List Item) (e : Sums)
    → AreFields (steps p ps) is → e.position ≡ p → Kept most e is ≡ SlotsKept most ps
body_keeps most p [] [] e are here = refl
body_keeps most p (OfCount c n ∷ ps) (i ∷ is) e are here =
    let rest = body_keeps most p ps is (added e i) are.3
    (moved_count e.position c i.role i.number are.0 ∙ here) in
    λ t. Here most e.position (are.0 t) (are.1 t) × rest t
body_keeps most p (OfId id ∷ ps) (i ∷ is) e are here =
    let rest = body_keeps most p ps is (added e i) are.3 (moved_id e.position i.role i.number are.0 ∙ here) in
    λ t. Here most e.position (are.0 t) i.number × rest t
body_keeps most p (OfPoint q ∷ ps) (i ∷ []) e are here = absurd are.3
body_keeps most p (OfPoint q ∷ ps) (i ∷ j ∷ is) e are here =
    let x = moved_x e.position p q i.role i.number here are.0 are.1 in
    let y = moved_y (added e i).position p q j.role j.number x are.3.0 are.3.1 in
    let rest = body_keeps most q ps is (added (added e i) j) are.3.3 y in
    (λ t. Here most (here t) (are.0 t) (are.1 t) × (Here most (x t) (are.3.0 t) (are.3.1 t) × rest t))
    ∙ (λ t. IsCoordinate (forth p.x q.x t) × (IsCoordinate (forth p.y q.y t) × SlotsKept most ps))
body_keeps most p _ _ e are here = absurd are

-- the slot is not a count of geometries
abbrev IsPlain : Slot → Type 0
IsPlain (OfCount (Geometries l) n) = ⊥
IsPlain _ = ⊤

plain_kept : (most : ℕ) (ps : List Slot) → AllByRecursion IsPlain ps → AllByRecursion IsInRange (slot_points ps)
    → SlotsKept most ps
plain_kept most [] plain all = tt
plain_kept most (OfCount (Geometries l) n ∷ ps) plain all = absurd plain.0
plain_kept most (OfCount _ n ∷ ps) plain all = (λ h. absurd h, plain_kept most ps plain.1 all)
plain_kept most (OfId id ∷ ps) plain all = (tt, plain_kept most ps plain.1 all)
plain_kept most (OfPoint q ∷ ps) plain all = (all.0.0, (all.0.1, plain_kept most ps plain.1 all.1))

plain_points : (ps : List Point) → AllByRecursion IsPlain (map OfPoint ps)
plain_points [] = tt
plain_points (p ∷ ps) = (tt, plain_points ps)

plain_runs : (ls : List (List Point)) → AllByRecursion IsPlain (flat_map run_of ls)
plain_runs [] = tt
plain_runs (ps ∷ ls) = (tt, all_join IsPlain (map OfPoint ps) (flat_map run_of ls) (plain_points ps) (plain_runs ls))

plain_areas : (areas : List (List (List Point))) → AllByRecursion IsPlain (flat_map rings_of areas)
plain_areas [] = tt
plain_areas (ls ∷ areas) =
    (tt, all_join IsPlain (flat_map run_of ls) (flat_map rings_of areas) (plain_runs ls) (plain_areas areas))

plain_ids : (ids : List ℤ) → AllByRecursion IsPlain (map OfId ids)
plain_ids [] = tt
plain_ids (id ∷ ids) = (tt, plain_ids ids)

plain_names : (ids : Ids) → AllByRecursion IsPlain (id_slots ids)
plain_names None = tt
plain_names (Some ids) = plain_ids ids

-- the slots of a simple shape have no count of geometries
plain_shape : (s : Simple) → AllByRecursion IsPlain (slots s)
plain_shape (point None) = tt
plain_shape (point (Some q)) = (tt, tt)
plain_shape (line ps) = (tt, plain_points ps)
plain_shape (polygon ls) = (tt, plain_runs ls)
plain_shape (multi_point ids ps) = (tt, all_join IsPlain (id_slots ids) _ (plain_names ids) (plain_points ps))
plain_shape (multi_line ids ls) = (tt, all_join IsPlain (id_slots ids) _ (plain_names ids) (plain_runs ls))
plain_shape (multi_polygon ids areas) = (tt, all_join IsPlain (id_slots ids) _ (plain_names ids) (plain_areas areas))

all_slots : (most : ℕ) (ps : List Slot) → SlotsKept most ps → AllByRecursion IsInRange (slot_points ps)
all_slots most [] k = tt
all_slots most (OfCount c n ∷ ps) k = all_slots most ps k.1
all_slots most (OfId id ∷ ps) k = all_slots most ps k.1
all_slots most (OfPoint q ∷ ps) k = ((k.0, k.1.0), all_slots most ps k.1.1)

-- ==== The items of a geometry.

none_in : (k : Kind) (p : ℤ) → AllByRecursion IsInRange (flat (empty_of k p))
none_in (SimpleKind PointForm) p = tt
none_in _ p = tt

simple_keeps : (most : ℕ) (s : Simple) (p : ℤ) (meta : ℕ) (body : List Item) (e : Sums) → IdsFit s
    → Agrees (flags s) meta → (b : Bool) → bit meta 4 ≡ b → BodyAt b (AreFields (fields s)) body
    → e.position ≡ origin → Kept most e body ↔ AllByRecursion IsInRange (points_in s)
simple_keeps most s p meta body e fit agrees true bare is here = (
  (λ k. subst (λ g. AllByRecursion IsInRange (flat g)) (left_out s p meta fit agrees bare)
      (none_in (SimpleKind (form_of s)) p)),
  (λ all. subst (λ l. Kept most e l) (sym is) tt),
)
simple_keeps most s p meta body e fit agrees false full is here =
    let same = body_keeps most origin (slots s) body e (subst (λ fs. AreFields fs body) (fields_are s) is) here in (
      (λ k. subst (λ l. AllByRecursion IsInRange l) (points_are s) (all_slots most (slots s) (subst (λ T. T) same k))),
      (λ all. subst (λ T. T) (sym same) (plain_kept most (slots s) (plain_shape s)
          (subst (λ l. AllByRecursion IsInRange l) (sym (points_are s)) all))),
    )

-- the members of a collection, which is inside `level` collections, keep them exactly if their items do
abbrev MembersKeep : ℕ → ℕ → Trees → Type 0
MembersKeep most level gs = (is : List Item) (e : Sums) → AreTrees gs → level ≤ most → (most ≤ level → count gs ≡ 0)
    → ItemsOfAll (suc level) gs is
    → Kept most e is ↔ (nest_all gs + level ≤ most) × AllByRecursion IsInRange (flat_all gs)

names_kept : (most : ℕ) (ids : Ids) → SlotsKept most (id_slots ids ++ [])
names_kept most None = tt
names_kept most (Some ids) = go ids
  where
    go : (ids : List ℤ) → SlotsKept most (map OfId ids ++ [])
    go [] = tt
    go (id ∷ ids) = (tt, go ids)

gathered_keeps : (most level : ℕ) (ids : Ids) (gs : Trees) (meta : ℕ) (body : List Item) (e : Sums)
    → AreTrees gs → level ≤ most → Agrees (flags_all ids gs) meta → MembersKeep most level gs
    → (b : Bool) → bit meta 4 ≡ b
    → BodyAt b (Follow (AreFields ((Count (Geometries level), count gs) ∷ id_fields ids))
    (ItemsOfAll (suc level) gs)) body → e.position ≡ origin
    → Kept most e body ↔ (nest_all gs + level ≤ most) × AllByRecursion IsInRange (flat_all gs)
gathered_keeps most level ids end meta body e fits low agrees each true bare is here =
    ((λ k. (omega (arith, low), tt)), (λ all. subst (λ l. Kept most e l) (sym is) tt))
gathered_keeps most level ids (g ▷ gs) meta body e fits low agrees each true bare is here = absurd
    (some_bare ids g gs meta agrees bare)
gathered_keeps most level ids gs meta body e fits low agrees each false full is here = (
  (λ k. let two = kept_split most is.front is.rest e (subst (λ l. Kept most e l) is.whole k) in
      (each is.rest (sums_after e is.front) fits low (subst (λ T. T) same two.0).0 is.second).0 two.1),
  (λ all. subst (λ l. Kept most e l) (sym is.whole) (Kept-append most is.front is.rest e
      (subst (λ T. T) (sym same) (none gs all.0, names_kept most ids))
      ((each is.rest (sums_after e is.front) fits low (none gs all.0) is.second).1 all))),
)
  where
    same : Kept most e is.front ≡ SlotsKept most (OfCount (Geometries level) (count gs) ∷ id_slots ids ++ [])
    same = body_keeps most origin (OfCount (Geometries level) (count gs) ∷ id_slots ids ++ []) is.front e
        (subst (λ l. AreFields ((Count (Geometries level), count gs) ∷ l) is.front) (names_steps ids) is.first) here

    none : (gs : Trees) → nest_all gs + level ≤ most → most ≤ level → count gs ≡ 0
    none end few deep = refl
    none (g ▷ gs) few deep = absurd (omega (arith, few, deep))

inside : (most level n : ℕ) → (most ≤ level → suc n ≡ 0) → suc level ≤ most
inside most level n deep = elim (cases_lt level most)
    [ inl h ↦ h | inr h ↦ absurd (let z : suc n ≡ 0 = deep h in omega (arith, z)) ]

mutual
  -- the items of a geometry keep depth and range exactly if the geometry does
  pub tree_keeps : (g : Tree) (most level : ℕ) (is : List Item) (e : Sums) → IsTree g → level ≤ most
      → Items level g is → Kept most e is ↔ (nest g + level ≤ most) × AllByRecursion IsInRange (flat g)
  tree_keeps (simple p s) most level is e fits low f =
      let frame = framed_keeps most e f in
      let body = simple_keeps most s p f.meta f.body (sums_after e (before_body f)) fits.1 f.agrees (bit f.meta 4) refl
      f.body_is (framed_place e f) in
      ((λ k. (omega (arith, low), body.0 (frame.0 k))), (λ all. frame.1 (body.1 all.1)))
  tree_keeps (collection p ids gs) most level is e fits low f =
      let frame = framed_keeps most e f in
      let body = gathered_keeps most level ids gs f.meta f.body (sums_after e (before_body f)) fits.2 low f.agrees
      (members_keep gs most level) (bit f.meta 4) refl f.body_is (framed_place e f) in
      ((λ k. body.0 (frame.0 k)), (λ all. frame.1 (body.1 all)))

  members_keep : (gs : Trees) (most level : ℕ) → MembersKeep most level gs
  members_keep end most level = λ is e fits low deep are.
      ((λ k. (omega (arith, low), tt)), (λ all. subst (λ l. Kept most e l) (sym are) tt))
  members_keep (g ▷ gs) most level = λ is e fits low deep are.
      let few = inside most level (count gs) deep in
      let one = tree_keeps g most (suc level) are.front e fits.0 few are.first in
      let more = members_keep gs most level are.rest (sums_after e are.front) fits.1 low
      (λ h. absurd (omega (arith, few, h))) are.second in (
        (λ k. let two = kept_split most are.front are.rest e (subst (λ l. Kept most e l) are.whole k) in
            let t = one.0 two.0 in
            let m = more.0 two.1 in
            (omega (arith, t.0, m.0), all_join IsInRange (flat g) (flat_all gs) t.1 m.1)),
        (λ all. let two = all_apart IsInRange (flat g) (flat_all gs) all.1 in
            subst (λ l. Kept most e l) (sym are.whole) (Kept-append most are.front are.rest e
            (one.1 (omega (arith, all.0), two.0)) (more.1 (omega (arith, all.0), two.1)))),
      )

-- ==== A refusal of the machine is a fault, and a first fault if the items before it are a part.

-- the position in the sums is the position of the items
pub position_is : (is : List Item) (e : Sums) → (sums_after e is).position ≡ position_from e.position is
position_is [] e = refl
position_is (i ∷ is) e = position_is is (added e i)

-- an item of a valid geometry is allowed at its place
allowed : (limits : Allowance) (before : List Item) (i : Item) (more : List Item) (g : Tree)
    → IsValid limits g → Items 0 g (before ++ i ∷ more) → Allowed limits before i.role i.number
allowed limits before i more g valid items = go i.role refl
    (subst (λ p. Here limits.nest p i.role i.number) (position_is before nothing)
    (kept_at limits.nest before i more nothing ((tree_keeps g limits.nest 0 (before ++ i ∷ more) nothing
    valid.tree (omega arith) items).1 (omega (arith, valid.nest_kept), valid.in_range))))
  where
    n : sum_by (λ j. nodes_by j.role j.number) before + nodes_by i.role i.number + 1 ≤ limits.nodes
    n = omega (
      arith,
      valid.nodes_kept,
      (tree_total g 0 (before ++ i ∷ more) valid.tree items).0,
      total-append nodes_by before (i ∷ more),
      total_is nodes_by before,
    )

    p : sum_by (λ j. points_by j.role j.number) before + points_by i.role i.number ≤ limits.points
    p = omega (
      arith,
      valid.points_kept,
      (tree_total g 0 (before ++ i ∷ more) valid.tree items).1,
      total-append points_by before (i ∷ more),
      total_is points_by before,
    )

    go : (r : Role) → i.role ≡ r → Here limits.nest (position before) r i.number → Allowed limits before r i.number
    go (Metadata k) e a = λ h. omega (arith, p, ap (λ r. points_by r i.number) e, one k i.number h)
      where
        one : (k m : ℕ) → announces_point k m ≡ true → points_by (Metadata k) m ≡ 1
        one k m h = rw h refl
    go (Count c) e a = (
      a,
      omega (arith, n, ap (λ r. nodes_by r i.number) e),
      omega (arith, p, ap (λ r. points_by r i.number) e),
    )
    go X e a = a
    go Y e a = a
    go _ e a = tt

exact_last : (before : List Item) (i : Item) → AreExact (before ++ i ∷ []) → IsExact i.role
exact_last [] i h = h.0
exact_last (j ∷ before) i h = exact_last before i h.1

-- no item at this place can go on to a valid geometry
pub dead : (limits : Allowance) (before : List Item) (rest : List ℕ) (st : Stack) (role : Role)
    (reason : Reason) → Runs nothing started before st
    → role_at (sums_after nothing before) st ≡ Some role → Refused limits before rest role reason
    → (i : Item) (more : List ℕ) → rest ≡ i.bytes ++ more → Part limits (before ++ i ∷ []) → ⊥
dead limits before rest st role reason r says refused i more e part =
    let items : Items 0 part.tree (before ++ i ∷ part.more) = subst (λ l. Items 0 part.tree l)
    (append_assoc before (i ∷ []) part.more) part.items in
    let t = run_on before (i ∷ part.more) st ([], Finished part.tree)
    (tree_runs part.tree [] nothing (before ++ i ∷ part.more) part.valid.tree items) r in
    let is_role : i.role ≡ role = some_role role i.role (sym says ∙ t.0) in
    let may = allowed limits before i part.more part.tree part.valid items in
    no_reason limits before rest i.role reason i.number i.bytes more t.1 e may
    (exact_last before i part.exact) (subst (λ x. Refused limits before rest x reason)
    (sym is_role) refused)

-- a refusal is a fault; a reader's `Err` rests on this theorem
pub refusal_is_fault : (limits : Allowance) (before : List Item) (rest : List ℕ) (st : Stack)
    (role : Role) (reason : Reason) → Runs nothing started before st
    → role_at (sums_after nothing before) st ≡ Some role
    → Refused limits before rest role reason → Fault limits (join before ++ rest) (length (join before)) reason
refusal_is_fault limits before rest st role reason r says refused =
    let f = run_is_front before st r in
    record {
      before = before;
      rest = rest;
      split = refl;
      place = refl;
      role = role;
      refused = refused;
      dead = λ i more e part. dead limits before rest st role reason r says refused i more e part;
      begins = (f.tree, _, f.fits, f.items);
      next = λ g more fits items. next_role before st role r says g more fits items;
    }

-- a refusal after a part is the first fault
pub refusal_is_first : (limits : Allowance) (before : List Item) (rest : List ℕ) (st : Stack)
    (role : Role) (reason : Reason) → Runs nothing started before st
    → role_at (sums_after nothing before) st ≡ Some role
    → Refused limits before rest role reason → Part limits before
    → FirstFault limits (join before ++ rest) (length (join before)) reason
unfolding refusal_is_fault
refusal_is_first limits before rest st role reason r says refused part =
    record { fault = refusal_is_fault limits before rest st role reason r says refused; alive = part }

-- ==== A part can go on to a valid geometry: fillers complete it.

-- fillers move nothing and announce nothing
stays : (z : ℤ) → z +ℤ unzigzag_of 0 ≡ z
stays z = omega (arith, ints)

filler_moves : (p : Point) (r : Role) → IsInRange p → IsInRange (moved p r (filler_number r))
filler_moves p Header h = (omega arith, omega arith)
filler_moves p X h = (subst (λ z. IsCoordinate z) (sym (stays p.x)) h.0, h.1)
filler_moves p Y h = (h.0, subst (λ z. IsCoordinate z) (sym (stays p.y)) h.1)
filler_moves p _ h = h

filler_here : (most : ℕ) (p : Point) (r : Role) → IsInRange p → Here most p r (filler_number r)
filler_here most p (Count c) h = λ d. refl
filler_here most p X h = subst (λ z. IsCoordinate z) (sym (stays p.x)) h.0
filler_here most p Y h = subst (λ z. IsCoordinate z) (sym (stays p.y)) h.1
filler_here most p _ h = tt

fillers_kept : (most : ℕ) (rs : List Role) (e : Sums) → IsInRange e.position → Kept most e (map filler rs)
fillers_kept most [] e h = tt
fillers_kept most (r ∷ rs) e h = (
  filler_here most e.position r h,
  fillers_kept most rs
      (added e (filler r)) (filler_moves e.position r h),
)

place_after : (most : ℕ) (is : List Item) (e : Sums) → IsInRange e.position → Kept most e is
    → IsInRange (sums_after e is).position
place_after most [] e h k = h
place_after most (i ∷ is) e h k = place_after most is (added e i) (go i.role k.0) k.1
  where
    go : (r : Role) → Here most e.position r i.number → IsInRange (moved e.position r i.number)
    go Header k = (omega arith, omega arith)
    go X k = (k, h.1)
    go Y k = (h.0, k)
    go _ k = h

filler_nodes : (rs : List Role) → (total nodes_by (map filler rs) ≡ 0) × (total points_by (map filler rs) ≡ 0)
filler_nodes [] = (refl, refl)
filler_nodes (r ∷ rs) = let t = filler_nodes rs in (omega (arith, t.0, (one r).0), omega (arith, t.1, (one r).1))
  where
    bare : (k : ℕ) → points_by (Metadata k) 16 ≡ 0
    bare k = go (Rattle.std.specs.Prelude.nat_eq k 1) refl
      where
        go : (b : Bool) → Rattle.std.specs.Prelude.nat_eq k 1 ≡ b → points_by (Metadata k) 16 ≡ 0
        go true e = rw e refl
        go false e = rw e refl

    count : (c : Counted) → (nodes_by (Count c) 0 ≡ 0) × (points_by (Count c) 0 ≡ 0)
    count Counted.Vertices = (refl, refl)
    count _ = (refl, refl)

    one : (r : Role) → (nodes_by r (filler_number r) ≡ 0) × (points_by r (filler_number r) ≡ 0)
    one (Metadata k) = (refl, bare k)
    one (Count c) = count c
    one _ = (refl, refl)

-- items run through within the limits, with exact sizes, can go on to a valid geometry
pub alive : (limits : Allowance) (before : List Item) (st : Stack) → Runs nothing started before st
    → Kept limits.nest nothing before → announced_nodes before ≤ limits.nodes
    → announced_points before ≤ limits.points → AreExact before → Part limits before
alive limits before st r kept few_nodes few_points exact =
    record {
      tree = f.tree;
      more = map filler f.roles;
      items = f.items;
      exact = exact;
      valid = record {
        tree = f.fits;
        in_range = was.1;
        nest_kept = omega (arith, was.0);
        nodes_kept = omega (
          arith,
          few_nodes,
          t.0,
          total-append nodes_by before
              (map filler f.roles),
          z.0,
          total_is nodes_by before,
        );
        points_kept = omega (
          arith,
          few_points,
          t.1,
          total-append points_by before
              (map filler f.roles),
          z.1,
          total_is points_by before,
        );
      };
    }
  where
    f : Rattle.twkb_grammar.proofs.Parts.Front before
    f = run_is_front before st r

    t : (total nodes_by (before ++ map filler f.roles) + 1 ≡ nodes f.tree)
        × (total points_by (before ++ map filler f.roles) ≡ length (flat f.tree))
    t = tree_total f.tree 0 (before ++ map filler f.roles) f.fits f.items

    z : (total nodes_by (map filler f.roles) ≡ 0) × (total points_by (map filler f.roles) ≡ 0)
    z = filler_nodes f.roles

    all : Kept limits.nest nothing (before ++ map filler f.roles)
    all = Kept-append limits.nest before (map filler f.roles) nothing kept
        (fillers_kept limits.nest f.roles (sums_after nothing before)
        (place_after limits.nest before nothing (omega arith, omega arith) kept))

    was : (nest f.tree + 0 ≤ limits.nest) × AllByRecursion IsInRange (flat f.tree)
    was = (tree_keeps f.tree limits.nest 0 (before ++ map filler f.roles) nothing f.fits (omega arith) f.items).0 all
