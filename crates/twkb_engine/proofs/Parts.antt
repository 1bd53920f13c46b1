-- The parts of a header, and the members and ends of geometries.
use Rattle.std.proofs.Common.{◌≡◌, ℕ, ◌+◌, ◌-◌, ◌<◌, ◌≤◌, ◌^◌, [], ◌∷◌, ◌++◌, length, Bool, true, false, ◌&&◌, nat_le}
use Rattle.std.proofs.Common.{refl, ap, ◌∙◌, OnOk, Result, Ok, Err, None, arith, zero, suc, List, sym, subst, IfOk}
use Rattle.std.proofs.Common.{◌⊎◌, length-append, nat_lt, Some, ◌%◌, ◌/◌, append_assoc, append-nil, take, drop, ◌||◌}
use Rattle.std.proofs.Common.{nat_eq}
use Rattle.std.specs.Prelude.{if◌then◌else◌, ℤ, Option, pos, get_or}
use Rattle.std.proofs.lemmas.Bool.Decides.{nat_tests}
use Rattle.std.specs.Result.{IsErrAnd}
use Rattle.std.proofs.lemmas.Result.{err_from_is_err_and}
use Rattle.std.proofs.Math.Seq.{take-suc}
use Rattle.std.proofs.lemmas.List.{length-drop, take_rest, drop-drop}
use Rattle.twkb_num.specs.Spelling.{unzigzag_of}
use Rattle.twkb_points.specs.Point.{Point, origin}
use Rattle.twkb_tree.specs.declared.kind.Kind.{Kind}
use Rattle.twkb_tree.specs.declared.kind.Kind.TheVariants as kinds
use Rattle.twkb_tree.specs.Tree.{Ids}
use Rattle.twkb_tree.specs.Rows.{Row}
use Rattle.twkb_tree.specs.Limits.{Allowance}
use Rattle.twkb_flat.specs.declared.stop.Stop.TheVariants.{Memory, Refused}
use Rattle.twkb_grammar.specs.Roles.{where_set, Item}
use Rattle.twkb_grammar.specs.Roles as role
use Rattle.twkb_grammar.specs.Fault.{TooManyPoints, Reason, TooManyNodes, nodes_by, nodes_of, points_of, BadType}
use Rattle.twkb_grammar.specs.Fault.{announces_point}
use Rattle.twkb_grammar.specs.Reading.{unless, is_exact, objection}
use Rattle.twkb_grammar.specs.Machine.{asked, BodyForm, Sums, Many, ManyPoints, ManyGeometries, first_count, kind_at}
use Rattle.twkb_grammar.specs.Machine.{kind_number}
use Rattle.twkb_grammar.specs.Machine as machine
use Rattle.twkb_grammar.specs.Bits.{bit}
use Rattle.twkb_grammar.specs.Noting.{Notes, note_end, note_ends, note_header, note_metadata, shown}
use Rattle.twkb_grammar.proofs.Running.{deep_allowed}
use Rattle.twkb_body.specs.Outline.{begins, FrameOutline, Outline, outline_past_end, outline_ends, shut, Stage, OnId}
use Rattle.twkb_body.specs.Outline.{OnEnd, members_open, many_counted, OnHeader, OnMetadata, ids_read}
use Rattle.twkb_body.specs.Reading.{open_count, NotedOutline, notes_in}
use Rattle.twkb_body.specs.Header.{head_of, kind_of, form_of, many_of, IsHeadAt, HeaderInFront}
use Rattle.twkb_body.specs.Growing.{Change, Nothing, applied, own_of, NewRow, count_change, stage_change, kind_with}
use Rattle.twkb_body.specs.Growing.{id_in}
use Rattle.twkb_body.specs.HeaderParts.{IsPastEnds, Passes, IsJudged, PartIn, PartsInFront, sized_head}
use Rattle.twkb_body.specs.declared.header.FrontHeader.{FrontHeader}
use Rattle.twkb_body.proofs.Outlined.{noted_item}
use Rattle.twkb_body.proofs.PointRuns.{outlined_judged}
use Rattle.twkb_body.proofs.InFront.{used_join}
use Rattle.twkb_body.proofs.HeaderParts.{read_ahead}
use Rattle.twkb_engine.specs.State.{stage_at, outline_in, size_roles, ids_in, sums_of, IsPlaced, IsHere}
use Rattle.twkb_engine.specs.Collections.{frames_of}
use Rattle.twkb_engine.specs.Fits.{item_fits, lists_fit, are_shut, is_typed, header_item, IsHeaderItem, IsInside}
use Rattle.twkb_engine.specs.Fits.{has_members}
use Rattle.twkb_engine.specs.Taking.{NotesGo, open_in, AreOpen, notes_past, Lands, GoesOn, Keeps, own_row, past_value}
use Rattle.twkb_engine.specs.Taking.{IsFree, counted_row, count_role}
use Rattle.twkb_engine.specs.declared.next_item.NextItem.{NextItem}
use Rattle.twkb_engine.specs.declared.engine.Engine.{Engine}
use Rattle.twkb_engine.specs.declared.next_item.NextItem.TheVariants as next
use Rattle.twkb_engine.specs.Stops.{Stop}
use Rattle.twkb_engine.specs.declared.open_collections.OpenCollection.{OpenCollection}
use Rattle.twkb_engine.specs.Standing.{ComesNext, StandsAt, LeadsOn, held_in, notes_at}
use Rattle.twkb_engine.proofs.Items.{frames_length, Leads, leads_as, number_leads, past_with, way_at}
use Rattle.twkb_engine.proofs.Steps.{open_noted, all_whole, noted_at, stands_whole}
use Rattle.twkb_engine.specs.declared.blob_reason.BlobReason.{BlobReason}
use Rattle.twkb_engine.specs.declared.blob_reason.BlobReason.TheVariants as blob
use Rattle.twkb_engine.specs.Texts.{blob_words}

-- ==== The parts of a header, and what comes after it.

-- ---- what an item of a header says

-- a geometry is begun
pub header_inside : (i : NextItem) → IsHeaderItem i → IsInside i
header_inside next.TypeByte header = absurd header
header_inside i header = tt

-- its kind is that of a type
pub header_typed : (i : NextItem) (k : Kind) → IsHeaderItem i → item_fits i k ≡ true → is_typed k ≡ true
header_typed next.TypeByte k header fits = absurd header
header_typed i kinds.Ring header fits = absurd cc
header_typed i k header fits = refl

-- no list is open
pub header_shut : (i : NextItem) (k : Kind) (p r m : ℕ) → IsHeaderItem i → lists_fit i k p r m ≡ true
    → are_shut p r m ≡ true
header_shut next.MetadataByte k p r m header fits = fits
header_shut next.ExtendedByte k p r m header fits = fits
header_shut next.Size k p r m header fits = fits
header_shut (next.BoxNumber left) k p r m header fits = fits
header_shut next.MemberCount k p r m header fits = fits
header_shut i k p r m header fits = absurd header

-- ---- the item after a header

-- the kind has it
pub header_fits : (k : Kind) → is_typed k ≡ true → item_fits (header_item k) k ≡ true
header_fits kinds.Ring t = absurd cc
header_fits k t = refl

-- no list is open at it
pub header_lists : (k : Kind) (p r m : ℕ) → is_typed k ≡ true → are_shut p r m ≡ true
    → lists_fit (header_item k) k p r m ≡ true
header_lists kinds.Ring p r m t s = absurd cc
header_lists k p r m t s = s

-- with it the body begins
header_begins_as : (d : Engine) (k : Kind) → d.head.kind ≡ k → is_typed k ≡ true
    → stage_at (header_item k) d ≡ begins (kind_of k) (head_of d.head)
header_begins_as d kinds.Ring is t = absurd cc
header_begins_as d k is t = rw is refl

pub header_begins : (d : Engine) → d.next ≡ header_item d.head.kind → is_typed d.head.kind ≡ true
    → outline_in d ≡ (frames_of d.collections, begins (kind_of d.head.kind) (head_of d.head))
header_begins d is t = ap (λ n. (frames_of d.collections, stage_at n d)) is
    ∙ ap (λ s. (frames_of d.collections, s)) (header_begins_as d d.head.kind refl t)

pub ruleset headers = (header_fits, header_lists, header_begins)

-- ---- notes

-- before a type byte few geometries are open
pub few_open : (d : Engine) → d.next ≡ next.TypeByte → open_in d < 2 ^ 32
few_open d is =
    let count : open_in d ≡ length (frames_of d.collections) =
    ap (λ n. open_count (frames_of d.collections, stage_at n d)) is in
    let few = d.few_open in
    omega (arith, count, frames_length [] d.collections, few)

-- a geometry that begins is noted
pub begun_noted : {S A E : Type 0} (holds : S → Notes → Type 0) (old new : S) (d : Engine)
    (told : Notes → Notes) (r : Result A E) → OnOk r ((w : Notes) → length w.begun < 2 ^ 32
    → holds old w → holds new (told w)) → open_in d < 2 ^ 32
    → OnOk r (NotesGo holds told d old new)
begun_noted holds old new d told (Ok u) f few = λ w many h. let much : length w.begun ≡ open_in d =
    many in f w (omega (arith, much, few)) h
begun_noted holds old new d told (Err e) f few = tt

-- ---- sums

pub add_zero : (a : ℕ) → a ≡ a + 0
add_zero a = omega arith

-- the sums, which are those after the item
pub sums_as : {b c : ℕ} {p q : Point} {nodes many points most : ℕ} → b ≡ c → p ≡ q → nodes ≡ many
    → points ≡ most
    → (let s : machine.Sums = record { bytes = b; position = p; nodes = nodes; points = points } in
    s) ≡ record { bytes = c; position = q; nodes = many; points = most }
sums_as eb ep en et = λ i. record { bytes = eb i; position = ep i; nodes = en i; points = et i }

-- ---- after a metadata byte

-- one point more may be announced
pub point_allowed : (b : Bool) (most points x : ℕ) → x ≡ (if b then 1 else 0) → points ≤ most
    → x ≤ most - points → unless (b && nat_le most points) TooManyPoints None ≡ None
point_allowed true most points x is few fits =
    let less : nat_le most points ≡ false = grind (arith, nat_tests) in rw less refl
point_allowed false most points x is few fits = refl

-- without an extended byte the size comes next
pub asked_sizes : (n : ℕ) → bit n 3 ≡ false → asked n ≡ size_roles n
asked_sizes n none = ap (λ b. where_set b (role.Extended ∷ []) ++ size_roles n) none

-- ==== The ends of geometries, and what they note.

-- a geometry that is begun is open besides the collections
inside_open : (n : NextItem) (d : Engine) (gs : List FrameOutline) → IsInside n
    → open_count (gs, stage_at n d) ≡ suc (length gs)
inside_open next.TypeByte d gs inside = absurd inside
inside_open n d gs inside = refl

-- how many geometries are open inside one
pub many_open : (d : Engine) → IsInside d.next → open_in d ≡ suc (length d.collections)
many_open d inside =
    let opened : open_in d ≡ suc (length (frames_of d.collections)) = inside_open d.next d
    (frames_of d.collections) inside in
    omega (arith, opened, frames_length [] d.collections)

-- all end
pub all_ended : (d : Engine) (w : Notes) (gs : List OpenCollection) → IsInside d.next → AreOpen d w
    → gs ≡ [] → length w.begun - 0 ≡ suc (length d.collections - length gs)
all_ended d w gs inside are none = rw none (omega (arith, are, many_open d inside))

-- some end
pub some_ended : (d : Engine) (w : Notes) (gs left : List OpenCollection) → IsInside d.next
    → AreOpen d w → length gs ≤ length d.collections → length left ≡ length gs
    → length w.begun - length (frames_of left) ≡ suc (length d.collections - length gs)
some_ended d w gs left inside are few same = omega (arith, are, many_open d inside, few, same, frames_length [] left)

-- one more end after as many bytes
pub end_noted : {S : Type 0} (holds : S → Notes → Type 0) (new : S) (w : Notes)
    (k many offset points o p : ℕ) → o ≡ offset → p ≡ points → many ≡ suc k
    → holds new (note_end o p (note_ends k offset points w))
    → holds new (note_ends many offset points w)
end_noted holds new w k many offset points o p eo ep em held =
    subst (λ (m : ℕ). holds new (note_ends m offset points w)) (sym em)
    (subst (λ T. T) (λ t. holds new (note_end (eo t) (ep t) (note_ends k offset points w))) held)

-- ---- what comes with an end

-- past the ends an item comes next, or none
pub past_ends : (exact : Bool) (bytes : ℕ) (gs : List FrameOutline)
    → IfOk (outline_past_end exact bytes gs) (λ o. IsPastEnds o.1)
past_ends true bytes (g ∷ gs) = elim g.left as
    (λ (n : ℕ). IfOk (outline_past_end true bytes
    (record { head = g.head; ids = g.ids; left = n } ∷ gs)) (λ o. IsPastEnds o.1)) [
      | zero ↦ past_ends (is_exact g.head.size (bytes - g.head.from)) bytes gs
      | suc n ↦ tt
    ]
past_ends _ bytes _ = tt

-- a way that leads past them
ok_passes : (way : Result Outline Reason) (o : Outline) → IfOk way (λ o. IsPastEnds o.1) → way ≡ Ok o → Passes way
ok_passes (Ok p) o past is = past
ok_passes (Err why) o past is = absurd cc

module _ {S : Type 0} {holds : S → Notes → Type 0} {way : Result Outline Reason} {change : Change} {d e : Engine}
    {rs more : List Row} {old new : S} where
  -- where it lands, with what is noted and kept
  pub goes : {answer : Result Bool Stop} → Lands way change d rs answer e more
      → IfOk answer (λ ends. NotesGo holds (notes_past d e ends) d old new)
      → (IsHere d → OnOk answer (IsPlaced e.next e)) → Keeps d e → GoesOn holds way change d rs old answer e more new
  goes landed noted placed kept = record { landed = landed; noted = noted; placed = placed; kept = kept }

  -- the ends are passed, and then the rows change
  pub then_brought : (ends : Bool) → GoesOn holds way Nothing d rs old (Ok ends) e rs new → more ≡ applied change rs
      → GoesOn holds way change d rs old (Ok ends) e more new
  then_brought false t brought =
      let l = t.landed in
      record { landed = (l.0, l.1, brought, l.3); noted = t.noted; placed = t.placed; kept = t.kept }
  then_brought true t brought =
      let l = t.landed in
      record { landed = (l.0, brought, l.2); noted = t.noted; placed = t.placed; kept = t.kept }

  -- or there is no memory for the change
  pub then_unkept : {r : Result Bool Stop} (ends : Bool) → IsErrAnd r (λ y. y ≡ Memory)
      → IfOk way (λ o. IsPastEnds o.1) → GoesOn holds way Nothing d rs old (Ok ends) e rs new
      → GoesOn holds way change d rs old r e more new
  then_unkept {r} ends is past t =
      let p = err_from_is_err_and r is in
      rw (p.1, p.2) (record { landed = passes ends t.landed; noted = tt; placed = λ here. tt; kept = t.kept })
    where
      passes : (b : Bool) → Lands way Nothing d rs (Ok b) e rs → Passes way
      passes false l = ok_passes way _ past l.0
      passes true l = ok_passes way _ past l.0

  -- or a size is wrong
  pub then_refused : {why : BlobReason} {r : Result Bool Stop} → IsErrAnd r (λ y. y ≡ Refused why)
      → GoesOn holds way Nothing d rs old (Err (Refused why)) e rs new → GoesOn holds way change d rs old r e more new
  then_refused {why} {r} is t =
      let p = err_from_is_err_and r is in
      rw (p.1, p.2) (record { landed = t.landed; noted = tt; placed = λ here. tt; kept = t.kept })

-- past a value that is done, too
pub past_shut : (h : machine.Head) (f : BodyForm) (ids : Ids) (n bytes : ℕ) (gs : List FrameOutline)
    (lists : List ℕ) → IfOk (outline_ends bytes (gs, shut h f ids n lists)) (λ o. IsPastEnds o.1)
past_shut h f ids n bytes gs [] = past_ends (is_exact h.size (bytes - h.from)) bytes gs
past_shut h f ids n bytes gs (zero ∷ lists) = past_shut h f ids (suc n) bytes gs lists
past_shut h f ids n bytes gs (suc left ∷ lists) = tt

-- past the lists of an engine
pub past_lists : (d : Engine) (lists : List ℕ) → IfOk (past_value d 0 lists) (λ o. IsPastEnds o.1)
past_lists d lists = past_shut (head_of d.head) (form_of d.head.kind) (ids_in d) 0 d.bytes
    (frames_of d.collections) lists

-- nothing ends
pub none_ended : {S : Type 0} (holds : S → Notes → Type 0) (s : S) (d e : Engine) (w : Notes)
    → IsInside d.next → IsInside e.next → e.collections ≡ d.collections → AreOpen d w → holds s w
    → holds s (notes_past d e false w)
none_ended holds s d e w inside still same are held =
    let none : length w.begun - open_in e ≡ 0 = omega (
      arith,
      are,
      many_open d inside,
      many_open e still,
      ap (λ (gs : List OpenCollection). length gs) same,
    ) in
    subst (λ (n : ℕ). holds s (note_ends n (d.start + d.bytes) d.points w)) (sym none) held

-- before the body of a geometry
pub ruleset headings = (header_inside, header_shut)

-- ==== The members of a geometry: their count, their ids, and the stage at which the first begins.

-- ---- the first member

-- no geometry ends before this outline, and as many are open as in this one
pub record Begins (bytes : ℕ) (gs : List FrameOutline) (o : Outline) : Type 0 where
  pub past : outline_ends bytes o ≡ Ok o
  pub pass : IsPastEnds o.1
  pub count : open_count o ≡ suc (length gs)

module _ {bytes : ℕ} {gs : List FrameOutline} (h : machine.Head) where
  -- members begin
  pub members_begin : (m : Many) (ids : Ids) (n : ℕ)
      → Begins bytes gs (members_open m h gs ids (suc n))
  members_begin ManyPoints ids n = record { past = refl; pass = tt; count = refl }
  members_begin m ids n = record { past = refl; pass = tt; count = refl }

  -- or their ids
  counted_begin : (m : Many) (n : ℕ) → 0 < n → Begins bytes gs (many_counted m h gs n)
  counted_begin m zero some = absurd (omega (arith, some))
  counted_begin m (suc n) some = by_ids (bit h.meta 2)
    where
      by_ids : (b : Bool) → Begins bytes gs (if b then (gs, OnId m h (suc n) [] n) else members_open
          m h gs None (suc n))
      by_ids true = record { past = refl; pass = tt; count = refl }
      by_ids false = members_begin m None n

-- a geometry without members ends
members_none : (m : Many) (h : machine.Head) (gs : List FrameOutline)
    → many_counted m h gs 0 ≡ (gs, OnEnd h)
members_none ManyPoints h gs = refl
members_none m h gs = refl

-- without ids the first member begins
pub counted_bare : (m : Many) (h : machine.Head) (gs : List FrameOutline) (n : ℕ) → 0 < n
    → bit h.meta 2 ≡ false → members_open m h gs None (suc (n - 1)) ≡ many_counted m h gs n
counted_bare m h gs zero some bare = absurd (omega (arith, some))
counted_bare m h gs (suc n) some bare = let one : suc n - 1 ≡ n = omega arith in rw (one, bare) refl

-- the row that some members bring
counted_brings : (m : Many) (h : machine.Head) (depth : ℕ) (id : Option ℤ) (n : ℕ) → 0 < n
    → count_change depth id m h n ≡ (if bit h.meta 2 then Nothing else NewRow (own_of depth id
    (kind_with m) h.precision))
counted_brings m h depth id zero some = absurd (omega (arith, some))
counted_brings m h depth id (suc n) some = refl

-- the type of a geometry with members
kind_with_many : (k : Kind) → has_members k ≡ true → kind_with (many_of k) ≡ kind_of k
kind_with_many kinds.Collection has = refl
kind_with_many k has = cc

own_is : (d : Engine) → has_members d.head.kind ≡ true
    → NewRow (own_of d.head.depth d.head.id (kind_with (many_of d.head.kind)) d.head.precision)
    ≡ own_row d
own_is d has = ap (λ k. NewRow (own_of d.head.depth d.head.id k d.head.precision))
    (kind_with_many d.head.kind has)

-- ---- the limits

-- what so many members announce
nodes_all : (m : Many) (level n : ℕ) → n ≡ nodes_of (first_count m level) n
nodes_all ManyPoints level n = refl
nodes_all m level n = refl

-- a kind whose members are geometries
pub collection_is : (k : Kind) → has_members k ≡ true → many_of k ≡ ManyGeometries → k ≡ kinds.Collection
collection_is kinds.Collection has is = refl
collection_is k has is = cc

-- they are not too deep
pub members_allowed : (limits : Allowance) (s : Sums) (m : Many) (level n points : ℕ)
    (o : Option Reason) → points ≡ points_of (first_count m level) n
    → (m ≡ ManyGeometries → (level < limits.nest) ⊎ (n ≤ 0))
    → o ≡ unless (nat_lt limits.nodes (s.nodes + n)) TooManyNodes (unless (nat_lt limits.points
    (s.points + points)) TooManyPoints None) → o ≡ objection limits s (role.Count
    (first_count m level)) n
members_allowed limits s ManyGeometries level n points o is deep says =
    rw is at says ∙ deep_allowed limits.nest level n _ (deep refl)
members_allowed limits s m level n points o is deep says = rw is at says

-- ---- the count and the ids

-- ids come, of which these were read and this number is left after the next one
abbrev pub on_id : Engine → List ℤ → ℕ → Stage
on_id d ids left = OnId (many_of d.head.kind) (head_of d.head) (suc d.members_left) ids left

-- what an item brings that leads to such a stage
abbrev id_change : ℕ → Engine → Stage → Change
id_change n d s = stage_change d.position n d.head.depth d.head.id s

abbrev pub open_at : Engine → Ids → ℕ → Outline
open_at d ids n = members_open (many_of d.head.kind) (head_of d.head) (frames_of d.collections) ids
    n

abbrev pub counted_at : Engine → ℕ → Outline
counted_at d n = many_counted (many_of d.head.kind) (head_of d.head) (frames_of d.collections) n

-- what some members announce
pub count_nodes : (d : Engine) (n : ℕ) → d.nodes + n ≡ d.nodes + nodes_by (count_role d) n
count_nodes d n = ap (λ x. d.nodes + x) (nodes_all (many_of d.head.kind)
    (length (frames_of d.collections)) n)

-- as many geometries are open after a count, or after the ids
pub open_after : (d e : Engine) {gs : List FrameOutline} {o : Outline} → outline_in e ≡ o → Begins 0 gs o
    → open_in d ≡ suc (length gs) → open_in e ≡ open_in d
open_after d e step b many = ap open_count step ∙ (b.count ∙ sym many)

-- so it is with a count in an engine
pub count_begins : (d : Engine) {n : ℕ} → 0 < n → Begins 0 (frames_of d.collections)
    (counted_at d n)
count_begins d {n} some = counted_begin (head_of d.head) (many_of d.head.kind) n some

module _ {rs : List Row} {d : Engine} {n width : ℕ} (at : ComesNext next.MemberCount rs d n width)
    (free : IsFree (count_role d) n d) where
  count_leads : Leads rs d (count_role d) n width (outline_ends (d.bytes + width) (counted_at d n))
      (count_change d.head.depth d.head.id (many_of d.head.kind) (head_of d.head) n)
  count_leads = number_leads at.alive at.next (count_role d) n width refl (λ p. p) tt at.wide free

  many_fit : has_members d.head.kind ≡ true
  many_fit = subst (λ i. item_fits i d.head.kind ≡ true) at.next d.item_fits

  pub count_none : n ≡ 0 → Leads rs d (count_role d) n width (past_with width d
      (OnEnd (head_of d.head))) (own_row d)
  count_none none =
      leads_as count_leads (ap (λ x. outline_ends (d.bytes + width) (counted_at d x)) none
      ∙ ap (outline_ends (d.bytes + width)) (members_none (many_of d.head.kind) (head_of d.head)
      (frames_of d.collections)))
      (ap (λ x. count_change d.head.depth d.head.id (many_of d.head.kind) (head_of d.head) x) none
      ∙ own_is d many_fit)

  pub count_some : 0 < n → Leads rs d (count_role d) n width (Ok (counted_at d n)) (counted_row d)
  count_some some =
      leads_as count_leads (counted_begin (head_of d.head) (many_of d.head.kind) n some).past
      (counted_brings (many_of d.head.kind) (head_of d.head) d.head.depth d.head.id n some
      ∙ ap (λ (r : Change). if bit d.head.metadata 2 then Nothing else r) (own_is d many_fit))

module _ {rs : List Row} {d : Engine} {n width : ℕ} (at : ComesNext next.Id rs d n width) where
  pub id_leads : Leads rs d role.Id n width (way_at n width d (stage_at next.Id d)) (id_change n d
      (stage_at next.Id d))
  id_leads = number_leads at.alive at.next role.Id n width refl (λ p. p) tt at.wide refl

  -- no geometry ends with an id
  pub id_passes : (left : ℕ) → Passes (way_at n width d (on_id d (ids_read d.ids) left))
  id_passes zero =
      let b = members_begin {gs = frames_of d.collections} (head_of d.head) (many_of d.head.kind)
      (Some (ids_read d.ids ++ unzigzag_of n ∷ [])) d.members_left in
      subst Passes (sym b.past) b.pass
  id_passes (suc left) = tt

  module _ {more : List ℤ} (pushed : more ≡ ids_read d.ids ++ unzigzag_of n ∷ []) where
    longer : length more ≡ length (ids_read d.ids) + 1
    longer = ap length pushed ∙ length-append (ids_read d.ids) (unzigzag_of n ∷ [])

    -- others follow it
    pub id_more : length more ≤ d.members_left → Leads rs d role.Id n width
        (Ok (frames_of d.collections, on_id d more (d.members_left - length more))) Nothing
    id_more few =
        let left : d.members_left - length (ids_read d.ids) ≡ suc (d.members_left - length more) =
        omega (arith, longer, few) in
        leads_as id_leads (ap (λ l. way_at n width d (on_id d (ids_read d.ids) l)) left
        ∙ ap (λ (xs : List ℤ). past_with width d (on_id d xs (d.members_left - length more)))
        (sym pushed)) (ap (λ l. id_change n d (on_id d (ids_read d.ids) l)) left)

    -- it is the last
    pub id_last : {ids : Ids} → ids ≡ Some more → d.members_left < length more
        → Leads rs d role.Id n width (Ok (open_at d ids (suc d.members_left))) (own_row d)
    id_last {ids} begun all =
        let none : d.members_left - length (ids_read d.ids) ≡ 0 = omega (arith, longer, all) in
        let read : Some (ids_read d.ids ++ unzigzag_of n ∷ []) ≡ ids = ap Some (sym pushed)
        ∙ sym begun in
        leads_as id_leads (ap (λ l. way_at n width d (on_id d (ids_read d.ids) l)) none
        ∙ (ap (λ i. outline_ends (d.bytes + width) (open_at d i (suc d.members_left))) read
        ∙ (members_begin (head_of d.head) (many_of d.head.kind) ids d.members_left).past))
        (ap (λ l. id_change n d (on_id d (ids_read d.ids) l)) none
        ∙ own_is d (subst (λ i. item_fits i d.head.kind ≡ true) at.next d.item_fits))

-- ==== An engine after a header that is complete at the start of the bytes.

-- no bytes lead nowhere
pub leads_nowhere : {S : Type 0} (holds : S → Notes → Type 0) (rs : List Row) (d : Engine) (old : S)
    → LeadsOn holds rs d old [] rs d old
leads_nowhere holds rs d old = λ front s. (
  record {
    front = s.front;
    whole = append-nil front ∙ s.whole;
    outlined = s.outlined;
    placed = s.placed;
    spelled = s.spelled;
  },
  λ h. h,
)

-- a header is of a kind that is shown as the code shows it
pub kind_shown : (k : machine.Kind) → kind_of (shown k) ≡ k
kind_shown (machine.SimpleKind machine.PointForm) = refl
kind_shown _ = refl

-- the byte names a type
type_free : (n : ℕ) → 0 < n → n < 8 → unless (nat_eq n 0 || nat_lt 7 n) BadType None ≡ None
type_free n some known =
    let a : nat_eq n 0 ≡ false = grind (arith, nat_tests) in
    let b : nat_lt 7 n ≡ false = grind (arith, nat_tests) in
    rw (a, b) refl

second : (rest : List ℕ) → get_or (drop 1 rest) 0 0 ≡ get_or rest 1 0
second [] = refl
second (b ∷ rest) = refl

-- what a stage says of a header
abbrev pub stage_kind : Stage → machine.Kind
stage_kind (OnMetadata k p) = k
stage_kind _ = machine.CollectionKind

abbrev pub stage_precision : Stage → ℤ
stage_precision (OnMetadata k p) = p
stage_precision _ = pos 0

-- its header is that of the geometry in the open collections, whatever comes next
pub any_placed : (n : NextItem) (e : Engine) → (let gs = frames_of e.collections in
    IsHeadAt (length gs) (id_in gs) e.head) → IsPlaced n e
any_placed next.TypeByte e p = tt
any_placed next.MetadataByte e p = tt
any_placed _ e p = p

module _ (d : Engine) (rs : List Row) (rest : List ℕ) (h : FrontHeader)
    (is : d.next ≡ next.TypeByte) (alone : held_in d ≡ []) (found : HeaderInFront rest h)
    (low : get_or rest 0 0 < 256) (front : List ℕ) (s : StandsAt front rs d) where
  abbrev kind_here : machine.Kind
  kind_here = kind_at (h.type_byte % 16)

  abbrev precision_here : ℤ
  precision_here = unzigzag_of (h.type_byte / 16)

  abbrev type_item : Item
  type_item = record { role = role.Header; number = h.type_byte; bytes = h.type_byte ∷ [] }

  abbrev sums_there : Sums
  sums_there = machine.added (sums_of d) type_item

  abbrev told_type : ℕ → Notes
  told_type start = note_header (start + d.bytes) d.points h.type_byte (notes_in start s.outlined)

  -- after its type byte
  after_type : NotedOutline d.limits (s.front ++ h.type_byte ∷ []) sums_there
      (frames_of d.collections, OnMetadata kind_here precision_here) rs told_type
  after_type =
      noted_item d.limits s.front (sums_of d) (frames_of d.collections, OnHeader) rs _ type_item
      (subst (λ n. NotedOutline d.limits s.front (sums_of d) (frames_of d.collections, stage_at n d)
      rs (λ start. notes_in start s.outlined)) is (noted_at s))
      refl (subst (λ x. x < 256) (sym found.type_byte) low, refl)
      (type_free (h.type_byte % 16) found.some_type found.known_type)

  type_front : s.front ++ h.type_byte ∷ [] ≡ front ++ take 1 rest
  type_front =
      let byte = take-suc rest 0 0 (let two = found.two in omega (arith, two))
      ∙ ap (λ b. b ∷ []) (sym found.type_byte) in
      λ i. sym (all_whole front rs d alone s) i ++ sym byte i

  -- there may be no memory for its span
  pub type_stops : PartIn d.limits front rest
  type_stops = record {
    used = 1;
    some = omega arith;
    within = (let two = found.two in omega (arith, two));
    part = subst (IsJudged d.limits) type_front (outlined_judged d.limits
        (s.front ++ h.type_byte ∷ []) _ (
          frames_of d.collections,
          OnMetadata kind_here precision_here,
        ) rs after_type.outlined tt);
  }

  module _ (low_meta : get_or rest 1 0 < 256) (points : ℕ)
      (announced : points ≡ (if announces_point (kind_number kind_here) h.metadata then 1 else 0))
      (few : points ≤ d.limits.points - d.points) where
    abbrev left : List ℕ
    left = drop 1 rest

    -- what the metadata byte says, and the parts after it
    abbrev Says : ℕ → List ℕ → Type 0
    Says x parts = (x < 256) × (bit x 4 ≡ false)
        × (objection d.limits sums_there (role.Metadata (kind_number kind_here)) x ≡ None)
        × (d.points + points ≡ sums_there.points + (if announces_point (kind_number kind_here) x then 1 else 0))
        × PartsInFront x parts h.parts.size h.parts.from h.parts.used

    same : h.metadata ≡ get_or left 0 0
    same = found.metadata ∙ sym (second rest)

    said : Says (get_or left 0 0) (take (length left - 1) (drop 1 left))
    said = (let kept = d.points_kept in
        subst (λ (x : ℕ × List ℕ). Says x.0 x.1) (λ i. (same i, sym (take_rest left 1 ∙ drop-drop 1 1 rest) i)) (
          subst (λ x. x < 256) (sym found.metadata) low_meta,
          found.body,
          point_allowed (announces_point (kind_number kind_here) h.metadata) d.limits.points
              (d.points + 0) points announced (omega (arith, kept)) (omega (arith, few)),
          ap (λ x. x + points) (add_zero d.points) ∙ ap (λ x. (d.points + 0) + x) announced,
          found.parts,
        ))

    -- the bytes of the header
    whole : front ++ take h.used rest ≡ (s.front ++ h.type_byte ∷ []) ++ take (1 + h.parts.used) left
    whole =
        let n : ℕ = 1 + h.parts.used in
        let used_is : h.used ≡ 1 + n = (let u = found.used in omega (arith, u)) in
        ap (λ k. front ++ take k rest) used_is
        ∙ (ap (λ l. front ++ l) (used_join rest 1 n ∙ ap (λ l. take 1 rest ++ take n l) (take_rest rest 1))
        ∙ (sym (append_assoc front (take 1 rest) (take n left)) ∙ ap (λ l. l ++ take n left) (sym type_front)))

    -- an engine whose fields say so stands after the optional parts
    pub header_leads : {S : Type 0} (holds : S → Notes → Type 0) (old mid new : S) (e : Engine)
        → e.limits ≡ d.limits → held_in e ≡ [] → e.start ≡ d.start → IsPlaced e.next e
        → sums_of e ≡ record {
          bytes = d.bytes + h.used;
          position = origin;
          nodes = d.nodes;
          points = d.points + points;
        }
        → outline_in e ≡ (
          frames_of d.collections,
          begins kind_here
              (sized_head precision_here h.metadata h.parts.size (d.bytes + h.from)),
        )
        → NotesGo holds (note_header (d.start + d.bytes) d.points h.type_byte) d old mid
        → ((w : Notes) → holds mid w → holds new (note_metadata h.metadata w))
        → (t : StandsAt (front ++ take h.used rest) rs e) × (holds old (notes_at s) → holds new (notes_at t))
    header_leads holds old mid new e limits none start placed sums step first next_told =
        let read = read_ahead d.limits (s.front ++ h.type_byte ∷ []) sums_there
        (frames_of d.collections) kind_here precision_here rs told_type left h.parts.size
        h.parts.from h.parts.used (d.points + points)
        (let two = found.two in omega (arith, length-drop 1 rest, two)) said.0 said.1 said.2 said.3 said.4 after_type in
        let used : d.bytes + h.used ≡ sums_there.bytes + (1 + h.parts.used) = (let u = found.used in
        omega (arith, u)) in
        let from : d.bytes + h.from ≡ (sums_there.bytes + 1) + h.parts.from = (let f = found.from in
        omega (arith, f)) in
        let o : ℕ → ℕ → Outline = λ x k.
        (frames_of d.collections, begins kind_here (sized_head precision_here x h.parts.size k))
        in
        let t = stands_whole (front ++ take h.used rest) rs e read limits
        (sums ∙ sums_as used refl (add_zero d.nodes) refl)
        (step ∙ (ap (λ x. o x (d.bytes + h.from)) same ∙ ap (o (get_or left 0 0)) from))
        refl placed whole none in
        let noted = ap (λ x. note_metadata x (told_type e.start)) (sym same)
        ∙ ap (λ k. note_metadata h.metadata (told_type k)) start in (
          t.0,
          λ held. subst (holds new) (sym (t.1 ∙ noted))
              (next_told _ (first _ (open_noted d.limits s.front (sums_of d) (outline_in d) rs
              s.outlined d.start) held)),
        )

-- ==== The text of a reason is short.

-- what is wrong with an item of a blob
pub short_blob : (reason : BlobReason) → length (blob_words reason) ≤ 31
short_blob blob.Truncated = omega arith
short_blob reason = omega arith
