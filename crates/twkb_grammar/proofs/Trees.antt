-- The machine runs through the items of any geometry, which announce exactly its nodes and its points.
use Rattle.std.proofs.Common.{Bool, true, false, ◌≡◌, ℕ, ◌+◌, List, [], ◌∷◌, ◌++◌, map, length, refl, ap, ◌∙◌}
use Rattle.std.proofs.Common.{Some, None, arith, suc, ◌<◌, sym, subst, length-append}
use Rattle.std.proofs.lemmas.List.Sums.{sum_by-cons}
use Rattle.std.specs.Prelude.{ℤ, flat_map, sum_by, ⊤}
use Rattle.std.proofs.lemmas.Bool.{false≢true}
use Rattle.std.proofs.lemmas.List.Concat.{length-flat_map}
use Rattle.std.specs.List.{AllByRecursion}
use Rattle.twkb_points.specs.Point.{Point, origin}
use Rattle.twkb_tree.specs.Tree.{Ids, Simple, point, line, polygon, multi_point, multi_line, multi_polygon, Tree}
use Rattle.twkb_tree.specs.Tree.{simple, collection, Trees, end, ◌▷◌, count, HasIds, IdsFit, IsTree, AreTrees, nodes}
use Rattle.twkb_tree.specs.Tree.{nodes_all, nodes_in, area_nodes, flat, flat_all, points_in, flatten}
use Rattle.twkb_grammar.specs.Bits.{bit}
use Rattle.twkb_grammar.specs.Roles.{Item, Role, Header, Metadata, Count, Counted, Id, AreFields, Geometries}
use Rattle.twkb_grammar.specs.Items.{Slot, OfCount, OfId, OfPoint, id_slots, declared, end_item, Flags, Framed}
use Rattle.twkb_grammar.specs.Items.{header_byte, filled, fields, Agrees, flags, flags_all, BodyAt, Follow, Items}
use Rattle.twkb_grammar.specs.Items.{ItemsOfAll, kind_of, id_fields, slots, run_of, rings_of}
use Rattle.twkb_grammar.specs.Machine.{SimpleKind, CollectionKind, kind_number, Head, Frame, AtHeader, AtEnd, AtCount}
use Rattle.twkb_grammar.specs.Machine.{ManyGeometries, empty_of, wanting, ended, snoc, members_begin, Sums, Stack, Runs}
use Rattle.twkb_grammar.specs.Machine.{Kind, sums_after}
use Rattle.twkb_grammar.specs.Fault.{nodes_by, points_by, nodes_of, points_of}
use Rattle.twkb_grammar.proofs.Bodies.{steps, fields_are, form_of, shape_run, first_run}
use Rattle.twkb_grammar.proofs.Bodies.{finish, SaysIds, Runs-append, head}
use Rattle.twkb_grammar.proofs.Bodies.{RunsBody, framed_run, options_each, framed_whole}

-- ==== Sums over items, and over slots, of what counts announce.

-- the sum over the items
abbrev pub total : (Role → ℕ → ℕ) → List Item → ℕ
total f [] = 0
total f (i ∷ is) = f i.role i.number + total f is

-- the total is the sum
pub total_is : (f : Role → ℕ → ℕ) (is : List Item) → sum_by (λ i. f i.role i.number) is ≡ total f is
total_is f [] = refl
total_is f (i ∷ is) = sum_by-cons (λ i. f i.role i.number) i is ∙ ap (λ n. f i.role i.number + n) (total_is f is)

-- the total of joined items
pub total-append : (f : Role → ℕ → ℕ) (is js : List Item) → total f (is ++ js) ≡ total f is + total f js
total-append f [] js = omega arith
total-append f (i ∷ is) js = omega (arith, total-append f is js)

-- the sum over slots of what their counts announce
abbrev pub by_slots : (Counted → ℕ → ℕ) → List Slot → ℕ
by_slots c [] = 0
by_slots c (OfCount k n ∷ ps) = c k n + by_slots c ps
by_slots c (_ ∷ ps) = by_slots c ps

-- the total of joined slots
pub by_slots-append : (c : Counted → ℕ → ℕ) (ps qs : List Slot)
    → by_slots c (ps ++ qs) ≡ by_slots c ps + by_slots c qs
by_slots-append c [] qs = omega arith
by_slots-append c (OfCount k n ∷ ps) qs = omega (arith, by_slots-append c ps qs)
by_slots-append c (_ ∷ ps) qs = by_slots-append c ps qs

pub by_points : (c : Counted → ℕ → ℕ) (ps : List Point) → by_slots c (map OfPoint ps) ≡ 0
by_points c [] = refl
by_points c (p ∷ ps) = by_points c ps

by_ids : (c : Counted → ℕ → ℕ) (ids : List ℤ) → by_slots c (map OfId ids) ≡ 0
by_ids c [] = refl
by_ids c (id ∷ ids) = by_ids c ids

pub by_names : (c : Counted → ℕ → ℕ) (ids : Ids) → by_slots c (id_slots ids) ≡ 0
by_names c None = refl
by_names c (Some ids) = by_ids c ids

pub by_flat : {A : Type 0} (c : Counted → ℕ → ℕ) (f : A → List Slot) (g : A → ℕ)
    → ((a : A) → by_slots c (f a) ≡ g a) → (xs : List A)
    → by_slots c (flat_map f xs) ≡ sum_by g xs
by_flat c f g h [] = refl
by_flat c f g h (x ∷ xs) = omega (
  arith,
  by_slots-append c (f x) (flat_map f xs),
  h x,
  by_flat c f g h xs,
  sum_by-cons g x xs,
)

-- the role is neither a count nor a metadata byte
abbrev IsPlain : Role → Type 0
IsPlain (Count k) = ⊥
IsPlain (Metadata k) = ⊥
IsPlain _ = ⊤

module _ (f : Role → ℕ → ℕ) (c : Counted → ℕ → ℕ) (counts : (k : Counted) (n : ℕ) → f (Count k) n ≡ c k n)
    (none : (r : Role) → IsPlain r → (n : ℕ) → f r n ≡ 0) where
  -- the total of a body is that of its slots
  body_total : (p : Point) (ps : List Slot) (is : List Item) → AreFields (steps p ps) is
      → total f is ≡ by_slots c ps
  body_total p [] [] are = refl
  body_total p (OfCount k n ∷ ps) (i ∷ is) are = omega (
    arith,
    ap (λ r. f r i.number) are.0,
    ap (λ m. f (Count k) m) are.1,
    counts k n,
    body_total p ps is are.3,
  )
  body_total p (OfId id ∷ ps) (i ∷ is) are = omega
      (arith, none i.role (subst IsPlain (sym are.0) tt) i.number, body_total p ps is are.3)
  body_total p (OfPoint q ∷ ps) (i ∷ []) are = absurd are.3
  body_total p (OfPoint q ∷ ps) (i ∷ j ∷ is) are = omega (
    arith,
    none i.role (subst IsPlain (sym are.0) tt) i.number,
    none j.role (subst IsPlain (sym are.3.0) tt) j.number,
    body_total q ps is are.3.3,
  )
  body_total p _ _ are = absurd are

  plain_total : (is : List Item) → AllByRecursion (λ (i : Item). IsPlain i.role) is → total f is ≡ 0
  plain_total [] all = refl
  plain_total (i ∷ is) all = omega (arith, none i.role all.0 i.number, plain_total is all.1)

  -- the total of a frame is that of its metadata byte and its body
  framed_total : {kind : ℕ} {p : ℤ} {own : Flags} {Body : List Item → Type 0} {is : List Item}
      (fr : Framed kind p own Body is) → total f is ≡ f (Metadata kind) fr.meta + total f fr.body
  framed_total {kind} {p} fr =
      let last = end_item (declared fr.size) (fr.box ++ fr.body) in
      let options = fr.extended ++ (fr.size ++ fr.box) in
      omega (
        arith,
        ap (total f) (framed_whole fr),
        none Header tt (header_byte kind p),
        total-append f options (fr.body ++ last ∷ []),
        plain_total options (options_each IsPlain fr.optional tt tt tt),
        total-append f fr.body (last ∷ []),
        none last.role tt 0,
      )

nodes_plain : (r : Role) → IsPlain r → (n : ℕ) → nodes_by r n ≡ 0
nodes_plain (Count k) plain n = absurd plain
nodes_plain _ plain n = refl

points_plain : (r : Role) → IsPlain r → (n : ℕ) → points_by r n ≡ 0
points_plain (Count k) plain n = absurd plain
points_plain (Metadata k) plain n = absurd plain
points_plain _ plain n = refl

-- ==== The machine runs through the items of any geometry.

-- the number of a shape's type is that of its form
pub kind_is : (s : Simple) → kind_of s ≡ kind_number (SimpleKind (form_of s))
kind_is (point o) = refl
kind_is _ = refl

-- a body that is left out is that of a geometry without members or points
none_left : (ids : Ids) → HasIds ids 0 → None ≡ ids
none_left None h = refl
none_left (Some ids) h = absurd (let z : 0 < 0 = h.0 in omega (arith, z))

-- a shape whose body bit 4 leaves out
pub left_out : (s : Simple) (p : ℤ) (meta : ℕ) → IdsFit s → Agrees (flags s) meta
    → bit meta 4 ≡ true → empty_of (SimpleKind (form_of s)) p ≡ simple p s
left_out (point (Some q)) p meta fit agrees bare = absurd (false≢true (sym agrees ∙ bare))
left_out (line (q ∷ qs)) p meta fit agrees bare = absurd (false≢true (sym agrees ∙ bare))
left_out (polygon (q ∷ qs)) p meta fit agrees bare = absurd (false≢true (sym agrees ∙ bare))
left_out (multi_point ids []) p meta fit agrees bare = ap (λ i. simple p (multi_point i [])) (none_left ids fit)
left_out (multi_point None (q ∷ qs)) p meta fit agrees bare = absurd (false≢true (sym agrees.0 ∙ bare))
left_out (multi_point (Some ids) (q ∷ qs)) p meta fit agrees bare = absurd (false≢true (sym agrees.0 ∙ bare))
left_out (multi_line ids []) p meta fit agrees bare = ap (λ i. simple p (multi_line i [])) (none_left ids fit)
left_out (multi_line None (q ∷ qs)) p meta fit agrees bare = absurd (false≢true (sym agrees.0 ∙ bare))
left_out (multi_line (Some ids) (q ∷ qs)) p meta fit agrees bare = absurd (false≢true (sym agrees.0 ∙ bare))
left_out (multi_polygon ids []) p meta fit agrees bare = ap (λ i. simple p (multi_polygon i [])) (none_left ids fit)
left_out (multi_polygon None (q ∷ qs)) p meta fit agrees bare = absurd (false≢true (sym agrees.0 ∙ bare))
left_out (multi_polygon (Some ids) (q ∷ qs)) p meta fit agrees bare = absurd (false≢true (sym agrees.0 ∙ bare))
left_out _ p meta fit agrees bare = refl

bare_body : (k : Kind) (p : ℤ) (fs : List Frame) (meta : ℕ) (body : List Item) (g : Tree) → bit meta 4 ≡ true
    → body ≡ [] → empty_of k p ≡ g → RunsBody k p fs meta body g
bare_body k p fs meta body g bare none same e size from here =
    let h : Head = head p meta size from in
    subst (λ is. Runs e (fs, wanting k h []) is (fs, AtEnd h g)) (sym none) (rw bare (ap (λ g. (fs, AtEnd h g)) same))

simple_body : (s : Simple) (p : ℤ) (fs : List Frame) (meta : ℕ) (body : List Item) → IdsFit s → Agrees (flags s) meta
    → (b : Bool) → bit meta 4 ≡ b → BodyAt b (AreFields (fields s)) body
    → RunsBody (SimpleKind (form_of s)) p fs meta body (simple p s)
simple_body s p fs meta body fit agrees true bare body_is e size from here =
    bare_body (SimpleKind (form_of s)) p fs meta body (simple p s) bare body_is
    (left_out s p meta fit agrees bare) e size from here
simple_body s p fs meta body fit agrees false full body_is e size from here =
    let h : Head = head p meta size from in
    rw full (shape_run h fs s fit agrees full e body here
    (subst (λ fields. AreFields fields body) (fields_are s) body_is))

-- two lists of trees, one after the other
abbrev pub joined : Trees → Trees → Trees
joined end gs = gs
joined (h ▷ hs) gs = h ▷ joined hs gs

-- one more member, with others after it
pub joined-snoc : (hs : Trees) (g : Tree) (gs : Trees) → joined (snoc hs g) gs ≡ joined hs (g ▷ gs)
joined-snoc end g gs = refl
joined-snoc (h ▷ hs) g gs = ap (λ ts. h ▷ ts) (joined-snoc hs g gs)

-- one more member at the end
pub joined-last : (hs : Trees) (g : Tree) → snoc hs g ≡ joined hs (g ▷ end)
joined-last end g = refl
joined-last (h ▷ hs) g = ap (λ ts. h ▷ ts) (joined-last hs g)

-- the frame of an open collection
abbrev pub frame : Head → Ids → Trees → ℕ → Frame
frame h ids done left = record { head = h; ids = ids; done = done; left = left }

says_all : (h : Head) (ids : Ids) (gs : Trees) → HasIds ids (count gs)
    → Agrees (flags_all ids gs) h.meta → SaysIds h ids (count gs)
says_all h ids end fit agrees = sym (none_left ids fit)
says_all h None (g ▷ gs) fit agrees = agrees.1
says_all h (Some ids) (g ▷ gs) fit agrees = (agrees.1, fit.1)

-- the fields of ids, along their slots
pub ids_steps : (ids : List ℤ) → filled (Rattle.std.specs.Prelude.map OfId ids) [] ≡ steps origin
    (Rattle.std.specs.Prelude.map OfId ids ++ [])
ids_steps [] = refl
ids_steps (id ∷ ids) =
    ap (λ fs. (Rattle.twkb_grammar.specs.Roles.Id, Rattle.twkb_num.specs.Spelling.zigzag_of id) ∷ fs)
    (ids_steps ids)

-- the fields of optional ids, along their slots
pub names_steps : (ids : Ids) → id_fields ids ≡ steps origin (id_slots ids ++ [])
names_steps None = refl
names_steps (Some ids) = ids_steps ids

-- a collection with members has a body
pub some_bare : (ids : Ids) (g : Tree) (gs : Trees) (meta : ℕ) → Agrees (flags_all ids (g ▷ gs)) meta
    → bit meta 4 ≡ true → ⊥
some_bare None g gs meta agrees bare = false≢true (sym agrees.0 ∙ bare)
some_bare (Some ids) g gs meta agrees bare = false≢true (sym agrees.0 ∙ bare)

empty_collection : (ids : Ids) (gs : Trees) (p : ℤ) (meta : ℕ) → HasIds ids (count gs)
    → Agrees (flags_all ids gs) meta → bit meta 4 ≡ true
    → empty_of CollectionKind p ≡ collection p ids gs
empty_collection ids end p meta fit agrees bare = ap (λ i. collection p i end) (none_left ids fit)
empty_collection ids (g ▷ gs) p meta fit agrees bare = absurd (some_bare ids g gs meta agrees bare)

-- the machine runs through the members
abbrev RunsMembers : Trees → Type 0
RunsMembers end = Unit {0}
RunsMembers (g ▷ gs) = (h : Head) (ids : Ids) (done : Trees) (fs : List Frame) (e : Sums)
    (is : List Item) → ItemsOfAll (suc (length fs)) (g ▷ gs) is
    → Runs e (frame h ids done (count gs) ∷ fs, AtHeader) is
    (fs, AtEnd h (collection h.precision ids (joined done (g ▷ gs))))

members_after : (gs : Trees) → RunsMembers gs → (h : Head) (ids : Ids) (fs : List Frame) (e : Sums)
    (is : List Item) → HasIds ids (count gs) → ItemsOfAll (suc (length fs)) gs is
    → Runs e (members_begin ManyGeometries h fs ids (count gs)) is (fs, AtEnd h (collection h.precision ids gs))
members_after end each h ids fs e is fit are =
    subst (λ js. Runs e (fs, AtEnd h (collection h.precision None end)) js
    (fs, AtEnd h (collection h.precision ids end))) (sym are)
    (ap (λ i. (fs, AtEnd h (collection h.precision i end))) (none_left ids fit))
members_after (g ▷ gs) each h ids fs e is fit are = each h ids end fs e is are

collection_body : (p : ℤ) (ids : Ids) (gs : Trees) (fs : List Frame) (meta : ℕ) (body : List Item)
    → HasIds ids (count gs) → Agrees (flags_all ids gs) meta → RunsMembers gs
    → (b : Bool) → bit meta 4 ≡ b
    → BodyAt b (Follow (AreFields ((Count (Geometries (length fs)), count gs) ∷ id_fields ids))
    (ItemsOfAll (suc (length fs)) gs)) body
    → RunsBody CollectionKind p fs meta body (collection p ids gs)
collection_body p ids gs fs meta body fit agrees each true bare body_is e size from here =
    bare_body CollectionKind p fs meta body (collection p ids gs) bare body_is
    (empty_collection ids gs p meta fit agrees bare) e size from here
collection_body p ids gs fs meta body fit agrees each false full body_is e size from here =
    let h : Head = head p meta size from in
    let mid : Stack = members_begin ManyGeometries h fs ids (count gs) in
    rw full (subst (λ is. Runs e (fs, AtCount ManyGeometries h) is
    (fs, AtEnd h (collection p ids gs))) (sym body_is.whole)
    (Runs-append body_is.front e (fs, AtCount ManyGeometries h) mid body_is.rest (fs, AtEnd h (collection p ids gs))
    (first_run ManyGeometries h fs mid (count gs) ids [] origin (says_all h ids gs fit agrees)
    (finish mid origin) e body_is.front here
    (subst (λ is. AreFields ((Count (Geometries (length fs)), count gs) ∷ is) body_is.front)
    (names_steps ids) body_is.first))
    (members_after gs each h ids fs (sums_after e body_is.front) body_is.rest fit body_is.second)))

member_then : (gs : Trees) (g : Tree) → ((fs : List Frame) (e : Sums) (is : List Item)
    → Items (length fs) g is → Runs e (fs, AtHeader) is (ended fs g)) → RunsMembers gs
    → RunsMembers (g ▷ gs)
member_then end g one each h ids done fs e is items =
    let mid : Stack = (fs, AtEnd h (collection h.precision ids (snoc done g))) in
    let last : Stack = (fs, AtEnd h (collection h.precision ids (joined done (g ▷ end)))) in
    subst (λ js. Runs e (frame h ids done 0 ∷ fs, AtHeader) js last) (sym items.whole)
    (Runs-append items.front e (frame h ids done 0 ∷ fs, AtHeader) mid items.rest last
    (one (frame h ids done 0 ∷ fs) e items.front items.first)
    (subst (λ js. Runs (sums_after e items.front) mid js last) (sym items.second)
    (ap (λ ts. (fs, AtEnd h (collection h.precision ids ts))) (joined-last done g))))
member_then (w ▷ ws) g one each h ids done fs e is items =
    let mid : Stack = (frame h ids (snoc done g) (count ws) ∷ fs, AtHeader) in
    let first : Stack = (frame h ids done (suc (count ws)) ∷ fs, AtHeader) in
    let last : Stack = (fs, AtEnd h (collection h.precision ids (joined done (g ▷ w ▷ ws)))) in
    subst (λ js. Runs e first js last) (sym items.whole)
    (Runs-append items.front e first mid items.rest last
    (one (frame h ids done (suc (count ws)) ∷ fs) e items.front items.first)
    (subst (λ ts. Runs (sums_after e items.front) mid items.rest
    (fs, AtEnd h (collection h.precision ids ts))) (joined-snoc done g (w ▷ ws))
    (each h ids (snoc done g) fs (sums_after e items.front) items.rest items.second)))

mutual
  -- the machine runs through the items of a geometry
  pub tree_runs : (g : Tree) (fs : List Frame) (e : Sums) (is : List Item) → IsTree g
      → Items (length fs) g is → Runs e (fs, AtHeader) is (ended fs g)
  tree_runs (simple p s) fs e is fits items =
      let f = subst (λ k. Framed k p (flags s) (AreFields (fields s)) is) (kind_is s) items in
      framed_run (SimpleKind (form_of s)) p (flags s) (AreFields (fields s)) fs e is (simple p s) fits.0 f
      (simple_body s p fs f.meta f.body fits.1 f.agrees (bit f.meta 4) refl f.body_is)
  tree_runs (collection p ids gs) fs e is fits items =
      framed_run CollectionKind p (flags_all ids gs)
      (Follow (AreFields ((Count (Geometries (length fs)), count gs) ∷ id_fields ids))
      (ItemsOfAll (suc (length fs)) gs)) fs e is (collection p ids gs) fits.0 items
      (collection_body p ids gs fs items.meta items.body fits.1 items.agrees (members_run gs fits.2)
      (bit items.meta 4) refl items.body_is)

  members_run : (gs : Trees) → AreTrees gs → RunsMembers gs
  members_run end fits = tt
  members_run (g ▷ gs) fits = member_then gs g (λ fs e is items. tree_runs g fs e is fits.0 items)
      (members_run gs fits.1)

-- ==== The items of a geometry announce exactly its nodes and its points.

nodes_runs : (ls : List (List Point)) → by_slots nodes_of (flat_map run_of ls) ≡ 0
nodes_runs [] = refl
nodes_runs (ps ∷ ls) = omega (
  arith,
  by_slots-append nodes_of (run_of ps) (flat_map run_of ls),
  by_points nodes_of ps,
  nodes_runs ls,
)

nodes_areas : (areas : List (List (List Point)))
    → length areas + by_slots nodes_of (flat_map rings_of areas) ≡ area_nodes areas
nodes_areas [] = refl
nodes_areas (rings ∷ areas) =
    let one : length (rings ∷ areas) ≡ suc (length areas) = refl in
    omega (
      arith,
      one,
      by_slots-append nodes_of (rings_of rings) (flat_map rings_of areas),
      nodes_runs rings,
      nodes_areas areas,
    )

shape_nodes : (s : Simple) → by_slots nodes_of (slots s) + 1 ≡ nodes_in s
shape_nodes (point None) = refl
shape_nodes (point (Some q)) = refl
shape_nodes (line ps) = omega (arith, by_points nodes_of ps)
shape_nodes (polygon rings) = omega (arith, nodes_runs rings)
shape_nodes (multi_point ids ps) = omega (
  arith,
  by_slots-append nodes_of (id_slots ids)
      (map OfPoint ps),
  by_names nodes_of ids,
  by_points nodes_of ps,
)
shape_nodes (multi_line ids ls) = omega (
  arith,
  by_slots-append nodes_of (id_slots ids)
      (flat_map run_of ls),
  by_names nodes_of ids,
  nodes_runs ls,
)
shape_nodes (multi_polygon ids areas) = omega (
  arith,
  by_slots-append nodes_of (id_slots ids) (flat_map rings_of areas),
  by_names nodes_of ids,
  nodes_areas areas,
)

points_run : (ps : List Point) → by_slots points_of (run_of ps) ≡ length ps
points_run ps = omega (arith, by_points points_of ps)

points_rings : (ls : List (List Point)) → by_slots points_of (flat_map run_of ls) ≡ length (flatten ls)
points_rings ls = by_flat points_of run_of length points_run ls ∙ sym (length-flat_map (λ ps. ps) ls)

points_of_rings : (rings : List (List Point)) → by_slots points_of (rings_of rings) ≡ length (flatten rings)
points_of_rings rings = omega (arith, points_rings rings)

shape_points : (s : Simple) (meta : ℕ) → bit meta 4 ≡ false → Agrees (flags s) meta
    → points_by (Metadata (kind_of s)) meta + by_slots points_of (slots s) ≡ length (points_in s)
shape_points (point None) meta full agrees = absurd (false≢true (sym full ∙ agrees))
shape_points (point (Some q)) meta full agrees = rw full refl
shape_points (line ps) meta full agrees = omega (arith, by_points points_of ps)
shape_points (polygon rings) meta full agrees = omega (arith, points_rings rings)
shape_points (multi_point ids ps) meta full agrees = omega (
  arith,
  by_slots-append points_of (id_slots ids) (map OfPoint ps),
  by_names points_of ids,
  by_points points_of ps,
)
shape_points (multi_line ids ls) meta full agrees = omega (
  arith,
  by_slots-append points_of (id_slots ids) (flat_map run_of ls),
  by_names points_of ids,
  points_rings ls,
)
shape_points (multi_polygon ids areas) meta full agrees =
    omega (
      arith,
      by_slots-append points_of (id_slots ids) (flat_map rings_of areas),
      by_names points_of ids,
      by_flat points_of rings_of (λ rings. length (flatten rings))
          (λ rings. points_of_rings rings) areas,
      length-flat_map flatten areas,
    )

empty_nodes : (k : Kind) (p : ℤ) → nodes (empty_of k p) ≡ 1
empty_nodes (SimpleKind Rattle.twkb_grammar.specs.Machine.PointForm) p = refl
empty_nodes _ p = refl

empty_points : (k : Kind) (p : ℤ) → length (flat (empty_of k p)) ≡ 0
empty_points (SimpleKind Rattle.twkb_grammar.specs.Machine.PointForm) p = refl
empty_points _ p = refl

no_point : (kind meta : ℕ) → bit meta 4 ≡ true → points_by (Metadata kind) meta ≡ 0
no_point kind meta bare = go (Rattle.std.specs.Prelude.nat_eq kind 1) refl
  where
    go : (b : Bool) → Rattle.std.specs.Prelude.nat_eq kind 1 ≡ b → points_by (Metadata kind) meta ≡ 0
    go true e = rw (e, bare) refl
    go false e = rw e refl

nodes_body : (p : Point) (ps : List Slot) (is : List Item) → AreFields (steps p ps) is
    → total nodes_by is ≡ by_slots nodes_of ps
nodes_body p ps is are = body_total nodes_by nodes_of (λ k n. refl) nodes_plain p ps is are

points_body : (p : Point) (ps : List Slot) (is : List Item) → AreFields (steps p ps) is
    → total points_by is ≡ by_slots points_of ps
points_body p ps is are = body_total points_by points_of (λ k n. refl) points_plain p ps is are

nodes_framed : {kind : ℕ} {p : ℤ} {own : Flags} {Body : List Item → Type 0} {is : List Item}
    (fr : Framed kind p own Body is) → total nodes_by is ≡ total nodes_by fr.body
nodes_framed fr = omega (arith, framed_total nodes_by nodes_of (λ k n. refl) nodes_plain fr)

points_framed : {kind : ℕ} {p : ℤ} {own : Flags} {Body : List Item → Type 0} {is : List Item}
    (fr : Framed kind p own Body is)
    → total points_by is ≡ points_by (Metadata kind) fr.meta + total points_by fr.body
points_framed fr = framed_total points_by points_of (λ k n. refl) points_plain fr

-- the nodes and points of a simple shape
simple_nodes : (s : Simple) (p : ℤ) (meta : ℕ) (body : List Item) → IdsFit s → Agrees (flags s) meta
    → (b : Bool) → bit meta 4 ≡ b → BodyAt b (AreFields (fields s)) body
    → total nodes_by body + 1 ≡ nodes_in s
simple_nodes s p meta body fit agrees true bare is = omega (
  arith,
  ap (total nodes_by) is,
  ap nodes (left_out s p meta fit agrees bare),
  empty_nodes (SimpleKind (form_of s)) p,
)
simple_nodes s p meta body fit agrees false full is = omega (
  arith,
  nodes_body origin (slots s) body (subst (λ fs. AreFields fs body) (fields_are s) is),
  shape_nodes s,
)

simple_points : (s : Simple) (p : ℤ) (meta : ℕ) (body : List Item) → IdsFit s
    → Agrees (flags s) meta → (b : Bool) → bit meta 4 ≡ b → BodyAt b (AreFields (fields s)) body
    → points_by (Metadata (kind_of s)) meta + total points_by body ≡ length (points_in s)
simple_points s p meta body fit agrees true bare is =
    omega (
      arith,
      ap (total points_by) is,
      no_point (kind_of s) meta bare,
      ap (λ g. length (flat g))
          (left_out s p meta fit agrees bare),
      empty_points (SimpleKind (form_of s)) p,
    )
simple_points s p meta body fit agrees false full is = omega (
  arith,
  points_body origin (slots s) body (subst (λ fs. AreFields fs body) (fields_are s) is),
  shape_points s meta full agrees,
)

abbrev MembersTotal : ℕ → Trees → Type 0
MembersTotal level gs = (is : List Item) → ItemsOfAll level gs is
    → (total nodes_by is + count gs ≡ nodes_all gs) × (total points_by is ≡ length (flat_all gs))

gathered_total : (level : ℕ) (p : ℤ) (ids : Ids) (gs : Trees) (meta : ℕ) (body : List Item)
    → HasIds ids (count gs) → Agrees (flags_all ids gs) meta → MembersTotal (suc level) gs
    → (b : Bool) → bit meta 4 ≡ b
    → BodyAt b (Follow (AreFields ((Count (Geometries level), count gs) ∷ id_fields ids))
    (ItemsOfAll (suc level) gs)) body
    → (total nodes_by body ≡ nodes_all gs) × (total points_by body ≡ length (flat_all gs))
gathered_total level p ids end meta body fit agrees each true bare is =
    (ap (total nodes_by) is, ap (total points_by) is)
gathered_total level p ids (g ▷ gs) meta body fit agrees each true bare is =
    absurd (some_bare ids g gs meta agrees bare)
gathered_total level p ids gs meta body fit agrees each false full is =
    let own_slots : List Slot = OfCount (Geometries level) (count gs) ∷ id_slots ids ++ [] in
    let are : AreFields (steps origin own_slots) is.front =
    subst (λ l. AreFields ((Count (Geometries level), count gs) ∷ l) is.front) (names_steps ids)
    is.first in
    let m = each is.rest is.second in (
      omega (
        arith,
        ap (total nodes_by) is.whole,
        total-append nodes_by is.front is.rest,
        nodes_body origin own_slots is.front are,
        by_slots-append nodes_of (id_slots ids) [],
        by_names nodes_of ids,
        m.0,
      ),
      omega (
        arith,
        ap (total points_by) is.whole,
        total-append points_by is.front is.rest,
        points_body origin own_slots is.front are,
        by_slots-append points_of (id_slots ids) [],
        by_names points_of ids,
        m.1,
      ),
    )

mutual
  -- a geometry announces its nodes and points
  pub tree_total : (g : Tree) (level : ℕ) (is : List Item) → IsTree g → Items level g is
      → (total nodes_by is + 1 ≡ nodes g) × (total points_by is ≡ length (flat g))
  tree_total (simple p s) level is fits items = (
    omega (
      arith,
      nodes_framed items,
      simple_nodes s p items.meta items.body fits.1 items.agrees (bit items.meta 4) refl
          items.body_is,
    ),
    points_framed items ∙ simple_points s p items.meta items.body fits.1 items.agrees (bit items.meta 4) refl
        items.body_is,
  )
  tree_total (collection p ids gs) level is fits items =
      let t = gathered_total level p ids gs items.meta items.body fits.1 items.agrees
      (members_total gs (suc level) fits.2) (bit items.meta 4) refl items.body_is in (
        omega (arith, nodes_framed items, t.0),
        omega (arith, points_framed items, t.1),
      )

  members_total : (gs : Trees) (level : ℕ) → AreTrees gs → MembersTotal level gs
  members_total end level fits = λ is items. (omega (arith, ap (total nodes_by) items), ap (total points_by) items)
  members_total (g ▷ gs) level fits = λ is items.
      let t = tree_total g level items.front fits.0 items.first in
      let m = members_total gs level fits.1 items.rest items.second in (
        omega (arith, ap (total nodes_by) items.whole, total-append nodes_by items.front items.rest, t.0, m.0),
        omega (
          arith,
          ap (total points_by) items.whole,
          total-append points_by items.front
              items.rest,
          t.1,
          m.1,
          length-append (flat g) (flat_all gs),
        ),
      )
