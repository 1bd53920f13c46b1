-- An item that comes next, in a body or at its end: where it leads, and what it brings.
use Rattle.std.proofs.Common.{◌≡◌, ℕ, zero, suc, ◌+◌, ◌-◌, ◌<◌, ◌≤◌, List, [], ◌∷◌, ◌++◌, length, take, set, get_or}
use Rattle.std.proofs.Common.{true, refl, sym, ap, ◌∙◌, arith, subst, inr, ◌^◌, false, Bool, Result, Err, Some}
use Rattle.std.proofs.Common.{if◌then◌else◌, None, ◌&&◌, nat_eq, ◌⊎◌, inl}
use Rattle.std.proofs.Math.Seq.{take-suc}
use Rattle.std.proofs.lemmas.List.{length-take-le, length-set, take-set, get_or-take, nil_from_length}
use Rattle.std.proofs.lemmas.Grind.{take-set_at, common_steps}
use Rattle.smallvec.specs.SmallVec.{SmallVec, with_items}
use Rattle.smallvec.proofs.SmallVecLemmas.{items-with_items}
use Rattle.std.specs.Prelude.{Ok, ℤ, Option, IfOk, OnOk}
use Rattle.twkb_tree.specs.Rows.{first_id, other_ids, Row}
use Rattle.twkb_grammar.specs.Machine as machine
use Rattle.twkb_grammar.specs.Machine.{ManyGeometries, Sums, listed}
use Rattle.twkb_grammar.specs.Reading.{is_exact as exact, Gives}
use Rattle.twkb_body.specs.Outline as outline
use Rattle.twkb_body.specs.Outline.{OnHeader, members_open, outline_past_end, ids_of, Outline, Stage, stage_role}
use Rattle.twkb_body.specs.Outline.{outline_ends, outline_advanced, FrameOutline, OnBody, Wanted, shut, listing}
use Rattle.twkb_body.specs.Growing.{id_in, Change, applied, stage_change, NewPoint, point_change, NewRow, list_row}
use Rattle.twkb_body.specs.Growing.{Admits}
use Rattle.twkb_body.specs.Header.{head_of, IsHeadAt, form_of}
use Rattle.twkb_engine.specs.Collections.{frame_outline, frames_from, frames_of}
use Rattle.twkb_engine.specs.declared.open_collections.OpenCollection.{OpenCollection}
use Rattle.std.proofs.Props.{props}
use Rattle.std.proofs.Math.Logic.{∥∥₁_elim, ∥∥₁_map}
use Rattle.std.proofs.Math.IntN.{ℤ_set}
use Rattle.std.specs.Result.{IsErrAnd}
use Rattle.std.proofs.lemmas.Result.{err_from_is_err_and}
use Rattle.twkb_num.specs.Varint.{varint_of, IsOpenVarint}
use Rattle.twkb_num.proofs.VarintLemmas.{IsVarint-varint_of}
use Rattle.twkb_points.specs.Point.{Point}
use Rattle.twkb_tree.specs.Tree.{Ids}
use Rattle.twkb_tree.specs.declared.kind.Kind.{Kind}
use Rattle.twkb_tree.specs.declared.kind.Kind.TheVariants as kinds
use Rattle.twkb_flat.specs.declared.stop.Stop.TheVariants.{Memory, Refused}
use Rattle.twkb_grammar.specs.Roles.{Role, IsNumber}
use Rattle.twkb_grammar.specs.Roles as role
use Rattle.twkb_grammar.specs.Fault.{Reason, moved, FirstFault, Truncated}
use Rattle.twkb_grammar.proofs.OneFault.{number_gives}
use Rattle.twkb_body.specs.declared.head.Head as place
use Rattle.twkb_body.specs.HeaderParts.{Passes}
use Rattle.twkb_body.specs.Reading.{open_count}
use Rattle.twkb_body.proofs.PointRuns.{somewhere_admitted}
use Rattle.twkb_body.proofs.Outlined.{outlined_depth, outlined_bytes, outlined_cut, outlined_missing}
use Rattle.twkb_engine.specs.State.{outline_in, sums_of, IsPlaced, IsNext, IsHere, stage_at, ids_in, body_at}
use Rattle.twkb_engine.specs.State.{allowance_of}
use Rattle.twkb_engine.specs.Caps.{depth_cap}
use Rattle.twkb_engine.specs.Taking.{IsFree, brings, Takes, Lands, SameBlob, BeginsAt, way_of, sums_with, shut_at}
use Rattle.twkb_engine.specs.Taking.{TakesItem, Keeps, NotesGo, notes_with}
use Rattle.twkb_grammar.specs.Noting.{Notes}
use Rattle.twkb_engine.specs.Taking.{last_lists, point_row, open_in}
use Rattle.twkb_engine.specs.Standing.{IsAlive, ComesNext, StandsAt, IsEnd, held_in, offset_in}
use Rattle.twkb_engine.specs.declared.next_item.NextItem.{NextItem}
use Rattle.twkb_engine.specs.declared.engine.Engine.{Engine}
use Rattle.twkb_engine.specs.Stops.{Stop}
use Rattle.twkb_engine.specs.Fits.{lists_of, left_fit, lists_fit, has_lines, has_members, line_lists_of}
use Rattle.twkb_engine.specs.Fits.{area_lists_of, item_fits, has_areas, IsByte}
use Rattle.twkb_engine.specs.declared.next_item.NextItem.TheVariants as next
use Rattle.twkb_engine.proofs.Steps.{next_role, next_number, next_no_end, all_whole}

-- ==== Members that begin, and the ends of geometries in collections.

-- the last frame is the innermost
pub frames_pushed : (below : List outline.FrameOutline) (gs : List OpenCollection) (g : OpenCollection)
    → frames_from below (gs ++ g ∷ []) ≡ frame_outline g ∷ frames_from below gs
frames_pushed below [] g = refl
frames_pushed below (f ∷ fs) g = frames_pushed (frame_outline f ∷ below) fs g

pub frames_length : (below : List outline.FrameOutline) (gs : List OpenCollection)
    → length (frames_from below gs) ≡ length below + length gs
frames_length below [] = omega arith
frames_length below (g ∷ gs) = omega (arith, frames_length (frame_outline g ∷ below) gs)

-- the first member of a collection begins
pub collection_begun : (items gs : List OpenCollection) (g : OpenCollection) → items ≡ gs ++ g ∷ []
    → (frames_of items, OnHeader) ≡ members_open ManyGeometries (head_of g.head) (frames_of gs)
    (ids_of g.ids) (suc g.members_left)
collection_begun items gs g e = rw (e, frames_pushed [] gs g) refl

-- the end of a member that others follow
pub going_on : (bytes : ℕ) (old rest items : List OpenCollection) (f k : OpenCollection)
    → old ≡ rest ++ f ∷ [] → items ≡ rest ++ k ∷ []
    → 0 < f.members_left → k.members_left ≡ f.members_left - 1 → head_of k.head ≡ head_of f.head
    → ids_of k.ids ≡ other_ids (ids_of f.ids)
    → outline_past_end true bytes (frames_of old) ≡ Ok (frames_of items, OnHeader)
going_on bytes old rest items f k o i z l hd ids =
    let one : f.members_left ≡ suc k.members_left = omega (arith, z, l) in
    rw (o, i, frames_pushed [] rest f, frames_pushed [] rest k, one, hd, ids) refl

-- the end of the last member is followed by that of its collection
pub going_up : (bytes : ℕ) (old rest : List OpenCollection) (f : OpenCollection) (up : machine.Head)
    → old ≡ rest ++ f ∷ [] → f.members_left ≡ 0
    → up ≡ head_of f.head → outline_past_end (exact up.size (bytes - up.from)) bytes
    (frames_of rest) ≡ outline_past_end true bytes (frames_of old)
going_up bytes old rest f up o z u = rw (o, frames_pushed [] rest f, z, u) refl

-- ---- the place of the geometry that is read

-- the id that the last frame gives
pub last_id : (below : List outline.FrameOutline) (gs : List OpenCollection) (i : ℕ) (d : OpenCollection)
    → i + 1 ≡ length gs → id_in (frames_from below gs) ≡ first_id (ids_of (get_or gs i d).ids)
last_id below (g ∷ []) zero d at = refl
last_id below (g ∷ f ∷ gs) (suc i) d at = last_id (frame_outline g ∷ below) (f ∷ gs) i d (omega arith)
last_id below _ _ d at = absurd (omega arith)

-- ---- a collection that ends, or whose member does, in the places of all

module _ (places : SmallVec OpenCollection) {m now : List OpenCollection} {n : ℕ}
    (d k : OpenCollection) (same : m ≡ places.items) (le : n ≤ length places.items) (is : now
    ≡ take n places.items) (some : 0 < n) (bytes : ℕ) where
  abbrev last : OpenCollection
  last = get_or m (n - 1) d

  -- the innermost comes after the others
  stood : now ≡ take (n - 1) places.items ++ last ∷ []
  stood =
      let one : n ≡ suc (n - 1) = omega (arith, some) in
      is ∙ (ap (λ j. take j places.items) one ∙ (take-suc places.items (n - 1) d
      (omega (arith, le, some))
      ∙ ap (λ (xs : List OpenCollection). take (n - 1) places.items ++ get_or xs (n - 1) d ∷ [])
      (sym same)))

  -- another takes its place
  changed : (with_items places (set m (n - 1) k)).items ≡ set m (n - 1) k
  changed = items-with_items places (set m (n - 1) k) (length-set m (n - 1) k ∙ ap length same)

  -- a member ends that others follow
  pub member_goes_on : 0 < last.members_left → k.members_left ≡ last.members_left - 1
      → head_of k.head ≡ head_of last.head → ids_of k.ids ≡ other_ids (ids_of last.ids)
      → outline_past_end true bytes (frames_of now)
      ≡ Ok (frames_of (take n (with_items places (set m (n - 1) k)).items), OnHeader)
  member_goes_on =
      going_on bytes now (take (n - 1) places.items) _ last k stood
      (ap (take n) changed ∙ (take-set_at m (n - 1) n k (omega (arith, some))
      (omega (arith, le, some, ap length same))
      ∙ ap (λ (xs : List OpenCollection). take (n - 1) xs ++ k ∷ []) same))

  -- the last member ends
  pub member_goes_up : last.members_left ≤ 0
      → outline_past_end (exact last.head.size (bytes - last.head.from)) bytes
      (frames_of (take (n - 1) (with_items places (set m (n - 1) k)).items))
      ≡ outline_past_end true bytes (frames_of now)
  member_goes_up z =
      ap (λ (gs : List OpenCollection). outline_past_end (exact last.head.size
      (bytes - last.head.from)) bytes (frames_of gs))
      (ap (take (n - 1)) changed ∙ (take-set m (n - 1) k ∙ ap (take (n - 1)) same))
      ∙ going_up bytes now (take (n - 1) places.items) last (head_of last.head) stood
      (omega (arith, z)) refl

-- the id of the open member of the innermost
pub innermost_id : (items m now : List OpenCollection) (n : ℕ) (d : OpenCollection) → m ≡ items
    → n ≤ length items → now ≡ take n items → 0 < n
    → first_id (ids_of (get_or m (n - 1) d).ids) ≡ id_in (frames_of now)
innermost_id items m now n d same le is some =
    let at : (n - 1) + 1 ≡ length (take n items) = omega (arith, some, length-take-le n items le) in
    ap (λ (xs : List OpenCollection). first_id (ids_of (get_or xs (n - 1) d).ids)) same
    ∙ (ap (λ (g : OpenCollection). first_id (ids_of g.ids)) (sym (get_or-take n items (n - 1) d (omega (arith, some))))
    ∙ (sym (last_id [] (take n items) (n - 1) d at) ∙ ap (λ (gs : List OpenCollection). id_in (frames_of gs)) (sym is)))

-- ==== What holds of an engine that some bytes lead to.

-- the rows take what the next item brings
pub admitted : (rs : List Row) (d : Engine) (r : Role) (n : ℕ) (bytes : List ℕ) → IsAlive rs d
    → IsNext r d → Gives r n bytes → IsFree r n d → Admits (brings r n d) rs
admitted rs d r n bytes alive says gives free = somewhere_admitted d.limits d.allowed (sums_of d)
    (outline_in d) rs r n bytes (∥∥₁_map alive (λ s. (s.1.front, s.1.outlined))) says gives free

head_prop : (depth : ℕ) (id : Option ℤ) (h : place.Head) → IsProp (IsHeadAt depth id h)
head_prop depth id h = Prim.hlevel (ℤ_set, props)

-- its header is that of the geometry in the open collections
pub alive_placed : (rs : List Row) (d : Engine) (item : NextItem) → d.next ≡ item
    → (let gs = frames_of d.collections in (IsPlaced item d
    → IsHeadAt (length gs) (id_in gs) d.head) → IsAlive rs d
    → IsHeadAt (length gs) (id_in gs) d.head)
alive_placed rs d item is by alive =
    let gs = frames_of d.collections in
    ∥∥₁_elim alive (head_prop (length gs) (id_in gs) d.head) (λ s. by (subst (λ n. IsPlaced n d) is s.1.placed))

-- one collection more may be open
pub alive_room : (rs : List Row) (d : Engine) → IsAlive rs d → length d.collections < depth_cap
alive_room rs d alive =
    ∥∥₁_elim alive (Prim.hlevel props) (λ s. let cap = d.allowed.nest_cap in
    omega (
      arith,
      cap,
      outlined_depth d.limits s.1.front (sums_of d) (outline_in d) rs
          s.1.outlined,
      frames_length [] d.collections,
    ))

-- ==== An item that comes next: where it leads, and what it brings.

-- past a stage after an item of this width
abbrev pub past_with : (width : ℕ) → Engine → Stage → Result Outline Reason
past_with width d s = outline_ends (d.bytes + width) (frames_of d.collections, s)

-- past the stage to which a number leads
abbrev pub way_at : (n width : ℕ) → Engine → Stage → Result Outline Reason
way_at n width d s =
    outline_ends (d.bytes + width) (outline_advanced (d.bytes + width) n
    (frames_of d.collections, s))

-- The next item has this role and this number, with no reason against it. It leads that way, with
-- this change, and the rows take the change.
pub record Leads (rs : List Row) (d : Engine) (r : Role) (n width : ℕ) (way : Result Outline Reason)
    (change : Change) : Type 0 where
  pub free : IsFree r n d
  pub way_is : way_of n width d ≡ way
  pub brings_is : brings r n d ≡ change
  pub admits : Admits change rs

module _ {rs : List Row} {d : Engine} {i : NextItem} (alive : IsAlive rs d) (is : d.next ≡ i)
    (r : Role) (n width : ℕ) (says : stage_role (length (frames_of d.collections)) d.bytes
    (stage_at i d) ≡ Some r) where
  -- in a geometry with this depth and this id
  abbrev brings_in : ℕ → Option ℤ → Change
  brings_in depth id = stage_change (moved d.position r n) n depth id (stage_at i d)

  abbrev LeadsIn : ℕ → Option ℤ → Type 0
  LeadsIn depth id = Leads rs d r n width (way_at n width d (stage_at i d)) (brings_in depth id)

  module _ {depth : ℕ} {id : Option ℤ} (deep : length (frames_of d.collections) ≡ depth)
      (named : id_in (frames_of d.collections) ≡ id) where
    brought : brings r n d ≡ brings_in depth id
    brought = λ t. stage_change (moved d.position r n) n (deep t) (named t) (stage_at (is t) d)

    pub given_leads : IsFree r n d → Admits (brings_in depth id) rs → LeadsIn depth id
    given_leads free admits =
        record {
          free = free;
          way_is = ap (λ j. way_at n width d (stage_at j d)) is;
          brings_is = brought;
          admits = admits;
        }

    pub item_leads : (bytes : List ℕ) → Gives r n bytes → IsFree r n d → LeadsIn depth id
    item_leads bytes gives free =
        let level = length (frames_of d.collections) in
        let next : stage_role level d.bytes (stage_at d.next d) ≡ Some r =
        ap (λ j. stage_role level d.bytes (stage_at j d)) is ∙ says in
        given_leads free (subst (λ c. Admits c rs) brought (admitted rs d r n bytes alive next gives
        free))

  -- past the header
  pub byte_leads : (bytes : List ℕ) → (IsPlaced i d → IsHere d) → Gives r n bytes → IsFree r n d
      → LeadsIn d.head.depth d.head.id
  byte_leads bytes by gives free =
      let here = alive_placed rs d i is by alive in
      item_leads (sym here.depth_is) (sym here.id_is) bytes gives free

  pub number_leads : (IsPlaced i d → IsHere d) → IsNumber r → n < 2 ^ 64 → IsFree r n d
      → LeadsIn d.head.depth d.head.id
  number_leads by number wide free =
      byte_leads (varint_of n) by (number_gives r n (varint_of n) number (IsVarint-varint_of n
      wide)) free

module _ {rs : List Row} {d : Engine} {r : Role} {n width : ℕ} {way : Result Outline Reason}
    {change : Change} (l : Leads rs d r n width way change) where
  -- in other words
  pub leads_as : {other : Result Outline Reason} {last : Change} → way ≡ other → change ≡ last
      → Leads rs d r n width other last
  leads_as goes brought = record {
    free = l.free;
    way_is = l.way_is ∙ goes;
    brings_is = l.brings_is ∙ brought;
    admits = subst (λ c. Admits c rs) brought l.admits;
  }

  -- what was answered after it is what is answered to it
  pub takes : (m e : Engine) (more : List Row) (answer : Result Bool Stop)
      → sums_of m ≡ sums_with (sums_of d) r n width → m.limits ≡ d.limits → m.start ≡ d.start
      → Lands way change m rs answer e more → Takes r n width d rs answer e more
  takes m e more (Ok false) sums limits start t = (
    l.free,
    l.way_is ∙ t.0,
    t.1 ∙ sums,
    t.2 ∙ ap (λ c. applied c rs) (sym l.brings_is),
    record { limits = t.3.limits ∙ limits; start = t.3.start ∙ start },
  )
  takes m e more (Ok true) sums limits start t =
      let at : m.start + m.bytes ≡ d.start + (d.bytes + width) = λ i. start i + (sums i).bytes in
      (l.free, l.way_is ∙ t.0, t.1 ∙ ap (λ c. applied c rs) (sym l.brings_is), subst (λ x. BeginsAt x e) at t.2)
  takes m e more (Err Memory) sums limits start t = (l.free, subst Passes (sym l.way_is) t)
  takes m e more (Err (Refused why)) sums limits start t =
      inr (l.free, l.way_is ∙ t.0, t.1 ∙ ap (λ (s : Sums). s.bytes) sums)

  -- it leads on
  pub takes_on : {e : Engine} {more : List Row} → way ≡ Ok (outline_in e)
      → sums_of e ≡ sums_with (sums_of d) r n width → more ≡ applied change rs → SameBlob d e
      → Takes r n width d rs (Ok false) e more
  takes_on goes sums brought same =
      (l.free, l.way_is ∙ goes, sums, brought ∙ ap (λ c. applied c rs) (sym l.brings_is), same)

  -- there is no memory for what it brings
  pub takes_none : (e : Engine) (more : List Row) (answer : Result Bool Stop)
      → IsErrAnd answer (λ y. y ≡ Memory) → Passes way → Takes r n width d rs answer e more
  takes_none e more answer err passes =
      let p = err_from_is_err_and answer err in rw (p.1, p.2)
      (l.free, subst Passes (sym l.way_is) passes)

-- its answer, with what is noted and kept
pub took : {S : Type 0} {holds : S → Notes → Type 0} {r : Role} {n width : ℕ} {d e : Engine} {rs more : List Row}
    {old new : S} {answer : Result Bool Stop} → Takes r n width d rs answer e more
    → IfOk answer (λ ends. NotesGo holds (notes_with r n width d e ends) d old new)
    → (IsPlaced d.next d → OnOk answer (IsPlaced e.next e)) → Keeps d e
    → TakesItem holds r n width d rs old answer e more new
took taken noted placed kept = record { taken = taken; noted = noted; placed = placed; kept = kept }

-- ==== A y: where it leads, and what it brings.

-- a kind with points left in a list has lists of points
lines_left : (k : Kind) (p r m : ℕ) → 0 < p → left_fit k p r m ≡ true → has_lines k ≡ true
lines_left k zero r m some fits = absurd (omega (arith, some))
lines_left kinds.Linestring (suc p) r m some fits = refl
lines_left k (suc p) r m some fits = grind arith

-- there a point comes to the last row
line_point : (k : Kind) (p : Point) (depth : ℕ) (id : Option ℤ) (precision : ℤ) (member : Option ℤ)
    → has_lines k ≡ true → point_change p depth id precision (form_of k) member ≡ NewPoint p
line_point kinds.Linestring p depth id precision member has = refl
line_point k p depth id precision member has = cc

-- and the next one comes
line_goes_on : (k : Kind) (h : machine.Head) (ids : Ids) (gs : List FrameOutline) (bytes p r m : ℕ)
    → has_lines k ≡ true → (let there = if has_members k then ids else None in
    outline_ends bytes (gs, shut h (form_of k) there 0 (lists_of k (suc p) r m))
    ≡ Ok (gs, OnBody h (form_of k) there (Wanted 0 (lists_of k p r m))))
line_goes_on kinds.Linestring h ids gs bytes p r m has = refl
line_goes_on k h ids gs bytes p r m has = cc

module _ {rs : List Row} {d : Engine} {n width : ℕ} {p : Point} (at : ComesNext next.Y rs d n width)
    (free : IsFree role.Y n d) (there : p ≡ moved d.position role.Y n) where
  y_leads : Leads rs d role.Y n width (past_with width d (shut_at d 0 (lists_of d.head.kind
      (d.points_left - 1) d.rings_left d.members_left))) (point_row p d)
  y_leads =
      leads_as (number_leads at.alive at.next role.Y n width refl (λ p. p) tt at.wide free) refl
      (ap (λ q. point_row q d) (sym there))

  -- the last point of a list, or one in none, leads past its end
  pub y_last : d.points_left ≤ 1 → Leads rs d role.Y n width (past_with width d (shut_at d 0
      (last_lists d))) (point_row p d)
  y_last few =
      let none : d.points_left - 1 ≡ 0 = omega (arith, few) in
      leads_as y_leads (ap (λ k. past_with width d (shut_at d 0 (lists_of d.head.kind k d.rings_left
      d.members_left))) none) refl

  -- another to the next one, and it comes to the last row
  pub y_more : 1 < d.points_left → Leads rs d role.Y n width
      (Ok (
        frames_of d.collections,
        body_at d (Wanted 0
            (lists_of d.head.kind ((d.points_left - 1) - 1) d.rings_left d.members_left)),
      )) (NewPoint p)
  y_more some =
      let one : d.points_left - 1 ≡ suc ((d.points_left - 1) - 1) = omega (arith, some) in
      let fits = subst (λ i. lists_fit i d.head.kind d.points_left d.rings_left d.members_left
      ≡ true) at.next d.lists_fit in
      let has = lines_left d.head.kind d.points_left d.rings_left d.members_left (omega (arith, some)) fits in
      leads_as y_leads (ap (λ k. past_with width d (shut_at d 0 (lists_of d.head.kind k d.rings_left
      d.members_left))) one
      ∙ line_goes_on d.head.kind (head_of d.head) (ids_of d.ids) (frames_of d.collections) _ _
      d.rings_left d.members_left has)
      (line_point d.head.kind p d.head.depth d.head.id d.head.precision (first_id (ids_in d)) has)

-- ==== The counts of a body: what they lead to, and the rows that they bring.

-- ---- lists of a kind

line_lists : (k : Kind) (p r m : ℕ) → has_lines k ≡ true → lists_of k p r m ≡ p ∷ line_lists_of k r m
line_lists kinds.Linestring p r m has = refl
line_lists k p r m has = cc

area_lists : (k : Kind) (r m : ℕ) → has_areas k ≡ true → line_lists_of k r m ≡ r ∷ area_lists_of k m
area_lists kinds.Polygon r m has = refl
area_lists k r m has = cc

areas_lined : (k : Kind) → has_areas k ≡ true → has_lines k ≡ true
areas_lined kinds.Polygon has = refl
areas_lined k has = cc

-- the id of the open member is that of the kind's members, if it has any
row_there : (k : Kind) (ids : Ids) (depth : ℕ) (id : Option ℤ) (precision : ℤ) (inner : ℕ)
    → has_lines k ≡ true → list_row depth id precision (form_of k) (first_id (if has_members k then
    ids else None)) inner ≡ list_row depth id precision (form_of k) (first_id ids) inner
row_there kinds.Polygon ids depth id precision zero has = refl
row_there kinds.Polygon ids depth id precision (suc inner) has = refl
row_there k ids depth id precision inner has = cc

-- ---- the count of a list

-- no rings are left at one
no_rings : (p r : ℕ) (b : Bool) → nat_eq p 0 && (nat_eq r 0 && b) ≡ true → r ≡ 0
no_rings p zero b none = refl
no_rings zero (suc r) b none = grind arith
no_rings (suc p) (suc r) b none = grind arith

module _ {i : NextItem} {rs : List Row} {d : Engine} {n width : ℕ} {member : Option ℤ} (row : Row)
    (at : ComesNext i rs d n width) (first : member ≡ first_id (ids_of d.ids)) where
  abbrev Made : ℕ → Type 0
  Made inner = row ≡ list_row d.head.depth d.head.id d.head.precision (form_of d.head.kind) member
      inner

  -- the row is that of the engine
  made_here : (inner : ℕ) → Made inner → has_lines d.head.kind ≡ true
      → list_row d.head.depth d.head.id d.head.precision (form_of d.head.kind) (first_id (ids_in d))
      inner ≡ row
  made_here inner made has =
      row_there d.head.kind (ids_of d.ids) d.head.depth d.head.id d.head.precision inner has
      ∙ (ap (λ m. list_row d.head.depth d.head.id d.head.precision (form_of d.head.kind) m inner)
      (sym first) ∙ sym made)

  abbrev list_at : (inner k : ℕ) → List ℕ → Result Outline Reason
  list_at inner k lists = past_with width d (listing (head_of d.head) (form_of d.head.kind)
      (ids_in d) inner k lists)

  -- a list of values of this depth, in these lists, to which a count leads
  abbrev Counts : ℕ → List ℕ → Type 0
  Counts inner lists = Leads rs d (role.Count (listed inner)) n width (list_at inner n lists)
      (NewRow row)

  -- with a count of 0 a list ends
  abbrev Ends : ℕ → Type 0
  Ends inner = n ≡ 0 → Leads rs d (role.Count (listed inner)) n width (past_with width d
      (shut_at d 0 (last_lists d))) (NewRow row)

  ends : (inner : ℕ) (lists : List ℕ) → Counts inner lists → shut_at d 0 (last_lists d) ≡ shut_at d
      (suc inner) lists → Ends inner
  ends inner lists l shuts none = leads_as l (ap (λ k. list_at inner k lists) none
      ∙ ap (past_with width d) (sym shuts)) refl

  -- with others it begins
  abbrev Begins : ℕ → List ℕ → Type 0
  Begins inner lists = 0 < n → Leads rs d (role.Count (listed inner)) n width
      (Ok (frames_of d.collections, body_at d (Wanted inner lists))) (NewRow row)

  begins : (inner : ℕ) (lists here : List ℕ) → Counts inner lists → here ≡ (n - 1) ∷ lists
      → Begins inner here
  begins inner lists here l same some =
      let one : n ≡ suc (n - 1) = omega (arith, some) in
      leads_as l (ap (λ k. list_at inner k lists) one ∙ ap (λ (ls : List ℕ). past_with width d
      (body_at d (Wanted inner ls))) (sym same)) refl

  module _ (is : i ≡ next.PointCount) (free : IsFree (role.Count (listed 0)) n d)
      (made : Made 0) where
    lined : has_lines d.head.kind ≡ true
    lined = subst (λ i. item_fits i d.head.kind ≡ true) (at.next ∙ is) d.item_fits

    points_lead : Counts 0 (line_lists_of d.head.kind d.rings_left d.members_left)
    points_lead =
        leads_as (number_leads at.alive (at.next ∙ is) (role.Count (listed 0)) n width refl (λ p. p)
        tt at.wide free) refl (ap NewRow (made_here 0 made lined))

    pub points_end : Ends 0
    points_end =
        ends 0 _ points_lead
        (ap (shut_at d 0) (line_lists d.head.kind 0 d.rings_left d.members_left lined))

    pub points_begin : Begins 0 (lists_of d.head.kind (n - 1) d.rings_left d.members_left)
    points_begin = begins 0 _ _ points_lead (line_lists d.head.kind (n - 1) d.rings_left
        d.members_left lined)

  module _ (is : i ≡ next.RingCount) (free : IsFree (role.Count (listed 1)) n d)
      (made : Made 1) where
    area : has_areas d.head.kind ≡ true
    area = subst (λ i. item_fits i d.head.kind ≡ true) (at.next ∙ is) d.item_fits

    rings_lead : Counts 1 (area_lists_of d.head.kind d.members_left)
    rings_lead =
        leads_as (number_leads at.alive (at.next ∙ is) (role.Count (listed 1)) n width refl (λ p. p)
        tt at.wide free) refl (ap NewRow (made_here 1 made (areas_lined d.head.kind area)))

    no_rings_left : d.rings_left ≡ 0
    no_rings_left =
        no_rings d.points_left d.rings_left (left_fit d.head.kind d.points_left d.rings_left d.members_left)
        (subst (λ i. lists_fit i d.head.kind d.points_left d.rings_left d.members_left ≡ true)
        (at.next ∙ is) d.lists_fit)

    pub rings_end : Ends 1
    rings_end =
        let lines = line_lists d.head.kind 0 d.rings_left d.members_left (areas_lined d.head.kind
        area) in
        let areas = area_lists d.head.kind d.rings_left d.members_left area in
        ends 1 _ rings_lead (ap (shut_at d 0) (lines ∙ (ap (λ (l : List ℕ). 0 ∷ l) areas
        ∙ ap (λ r. 0 ∷ r ∷ area_lists_of d.head.kind d.members_left) no_rings_left)))

    pub rings_begin : Begins 1 (line_lists_of d.head.kind (n - 1) d.members_left)
    rings_begin = begins 1 _ _ rings_lead (area_lists d.head.kind (n - 1) d.members_left area)

-- ==== What an engine says of itself: whether the bytes may end, and how many geometries are open.

-- ---- the end of the bytes

-- what holds bytes waits for more of a number
pub spelled_by : (d : Engine) → 0 < length (held_in d) → (IsByte d.next → ⊥) ⊎ (held_in d ≡ []) → IsByte d.next → ⊥
spelled_by d some (inl s) = s
spelled_by d some (inr e) = absurd (let none : length (held_in d) ≡ 0 =
    ap (λ (l : List ℕ). length l) e in omega (arith, some, none))

not_none : (bs : List ℕ) → 0 < length bs → bs ≡ [] → ⊥
not_none bs some e = let none : length bs ≡ 0 = ap (λ (l : List ℕ). length l) e in omega (arith, some, none)

is_zero : (n : ℕ) → n ≡ 0 → nat_eq n 0 ≡ true
is_zero n at = grind (arith, common_steps)

pub is_some : (n : ℕ) → 0 < n → nat_eq n 0 ≡ false
is_some n some = grind (arith, common_steps)

no_items : (bs : List ℕ) (rs : List Row) (d : Engine) (s : StandsAt bs rs d) → held_in d ≡ []
    → (n : ℕ) → d.bytes ≡ n → IsEnd (allowance_of d) bs (offset_in d) (nat_eq d.bytes 0)
no_items bs rs d s none zero at =
    let front : s.front ≡ [] = nil_from_length s.front
    (omega (
      arith,
      outlined_bytes d.limits s.front (sums_of d) (outline_in d) rs
          s.outlined,
      at,
    )) in
    subst (IsEnd (allowance_of d) bs (offset_in d)) (sym (is_zero d.bytes at)) (all_whole bs rs d none s ∙ front)
no_items bs rs d s none (suc n) at =
    let some : 0 < length s.front = omega (
      arith,
      outlined_bytes d.limits s.front (sums_of d)
          (outline_in d) rs s.outlined,
      at,
    ) in
    let r = next_role d in
    subst (IsEnd (allowance_of d) bs (offset_in d)) (sym (is_some d.bytes (omega (arith, at))))
    (subst (λ l. FirstFault d.limits l d.bytes Truncated) (sym (all_whole bs rs d none s))
    (outlined_missing d.limits s.front (sums_of d) (outline_in d) rs r.0 s.outlined r.1
    (not_none s.front some) (next_no_end d)))

-- no byte is held
pub at_end : (bs : List ℕ) (rs : List Row) (d : Engine) (s : StandsAt bs rs d)
    → length (held_in d) ≡ 0 → IsEnd (allowance_of d) bs (offset_in d) (nat_eq d.bytes 0)
at_end bs rs d s none = no_items bs rs d s (nil_from_length (held_in d) none) d.bytes refl

-- the bytes end inside a number
pub cut_end : (bs : List ℕ) (rs : List Row) (d : Engine) (s : StandsAt bs rs d)
    → IsOpenVarint (held_in d) → (n : ℕ) → n ≡ length (held_in d) → 0 < n
    → IsEnd (allowance_of d) bs (offset_in d) (nat_eq n 0)
cut_end bs rs d s begun n many some =
    let r = next_role d in
    subst (IsEnd (allowance_of d) bs (offset_in d)) (sym (is_some n some))
    (subst (λ l. FirstFault d.limits l d.bytes Truncated) (sym s.whole)
    (outlined_cut d.limits s.front (sums_of d) (outline_in d) rs (held_in d) r.0 s.outlined r.1
    (next_number d (spelled_by d (omega (arith, many, some)) s.spelled))
    (omega (arith, begun.room), begun.high)))

-- ---- open geometries

pub few_open : (bs : List ℕ) (rs : List Row) (d : Engine) (s : StandsAt bs rs d) → length d.collections ≤ d.limits.nest
few_open bs rs d s = omega (
  arith,
  frames_length [] d.collections,
  outlined_depth d.limits s.front
      (sums_of d) (outline_in d) rs s.outlined,
)

open_outside : (i : NextItem) (d : Engine) → i ≡ next.TypeByte
    → open_count (frames_of d.collections, stage_at i d) ≡ length d.collections
open_outside i d e = ap (λ j. open_count (frames_of d.collections, stage_at j d)) e
    ∙ omega (arith, frames_length [] d.collections)

open_inside : (i : NextItem) (d : Engine) → (i ≡ next.TypeByte → ⊥)
    → open_count (frames_of d.collections, stage_at i d) ≡ suc (length (frames_of d.collections))
open_inside next.TypeByte d n = absurd (n refl)
open_inside _ d n = refl

pub open_at_type : (d : Engine) → d.next ≡ next.TypeByte → length d.collections ≡ open_in d
open_at_type d e = sym (open_outside d.next d e)

pub open_past_type : (d : Engine) → (d.next ≡ next.TypeByte → ⊥) → length d.collections + 1 ≡ open_in d
open_past_type d n = omega (arith, frames_length [] d.collections, open_inside d.next d n)
