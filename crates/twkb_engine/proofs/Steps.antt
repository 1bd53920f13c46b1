-- The step of an engine at its next item, field by field, and a blob that is a single point.
use Rattle.std.proofs.Common.{◌≡◌, ℕ, ◌+◌, List, ◌⊎◌, inl, inr, zero, suc, ◌-◌, ◌<◌, [], ◌∷◌, ◌++◌, length, refl, sym}
use Rattle.std.proofs.Common.{ap, ◌∙◌, subst, append-nil, arith, true, false, Bool, Result, Some, None, Ok, Err, IfOk}
use Rattle.std.proofs.Common.{ℤ, ◌≤◌, ◌/◌, ◌%◌, take, get_or, Option, IfSome}
use Rattle.twkb_points.specs.Point.{Point}
use Rattle.twkb_tree.specs.Limits.{Allowance, IsAllowance}
use Rattle.twkb_grammar.specs.Machine.{Sums, Head as MachineHead, Frame, Phase, AtBody, Finished, Want, nothing}
use Rattle.twkb_grammar.specs.Machine.{added, kind_number, first_count, listed, Runs, started, sums_after}
use Rattle.twkb_body.specs.declared.head.Head.{Head}
use Rattle.twkb_body.specs.declared.member_ids.MemberIds.{MemberIds}
use Rattle.twkb_engine.specs.State.{sums_of, IsNext, IsPlaced, outline_in, stage_at}
use Rattle.twkb_engine.specs.Standing.{held_in, MovesOn, StandsAt, notes_at, StopsIn, MadeIn, IsFed}
use Rattle.twkb_engine.specs.Taking.{Stays, BeginsAt, NotesGo, notes_with, open_in, point_span}
use Rattle.twkb_engine.specs.declared.open_collections.OpenCollection.{OpenCollection}
use Rattle.twkb_engine.specs.declared.next_item.NextItem.{NextItem}
use Rattle.twkb_engine.specs.declared.engine.Engine.{Engine}
use Rattle.std.proofs.Math.Nat.{add-zero}
use Rattle.std.specs.Prelude.{not}
use Rattle.std.proofs.lemmas.List.{get_or-take, length-take-le, nil_from_length}
use Rattle.twkb_num.specs.Varint.{IsVarint}
use Rattle.twkb_num.specs.Spelling.{unzigzag_of}
use Rattle.twkb_tree.specs.Tree.{Tree, point, simple, point_list}
use Rattle.twkb_tree.specs.Rows.{Row, rows, whole_row}
use Rattle.twkb_tree.specs.declared.kind.Kind.TheVariants as kind
use Rattle.twkb_grammar.specs.Roles.{Role, Item, IsNumber, join}
use Rattle.twkb_grammar.specs.Roles as role
use Rattle.twkb_grammar.specs.Items.{Blob}
use Rattle.twkb_grammar.specs.Fault.{Reason, SizeMismatch, points_by}
use Rattle.twkb_grammar.specs.Reading.{is_exact, unless, Ran, Reached, Gives}
use Rattle.twkb_grammar.specs.Noting.{Notes, no_notes, noted, note_end, note_ends, note_ends_to, IsQuiet}
use Rattle.twkb_grammar.specs.Noting.{spans_of_blob}
use Rattle.twkb_grammar.proofs.NotedSpans.{ends_swap, blob_noted, quiet, all_open, ends_to}
use Rattle.twkb_grammar.proofs.Streams.{no_items}
use Rattle.twkb_grammar.proofs.BodiesBack.{some_role}
use Rattle.twkb_grammar.proofs.OneFault.{NoEnd, IsByteRole, byte_gives, number_gives, byte_no_end, number_no_end}
use Rattle.twkb_grammar.proofs.OneFault.{blob_is_part, no_fault}
use Rattle.twkb_grammar.proofs.Parts.{reached_frames}
use Rattle.twkb_grammar.proofs.Running.{ran_blob}
use Rattle.twkb_grammar.proofs.TreesBack.{runs_are_items}
use Rattle.twkb_body.specs.Outline.{Outline, FrameOutline, frame_outline, Stage, OnEnd, OnFinished, stage_of}
use Rattle.twkb_body.specs.Outline.{stage_role, outline_ended, outline_past_end, outline_ends, OnHeader, outline_of}
use Rattle.twkb_body.specs.Reading.{Outlined, open_count, OutlineLanded, NotedOutline, notes_in}
use Rattle.twkb_body.specs.Growing.{rows_so_far, id_in}
use Rattle.twkb_body.specs.Header.{kind_of, many_of, IsHeadAt}
use Rattle.twkb_body.specs.HeaderParts.{PartIn, IsJudged}
use Rattle.twkb_body.specs.Front.{WholePoint, metadata_with, header_bytes}
use Rattle.twkb_body.proofs.Outlined.{outlined_start, noted_item, outlined_ends, outlined_whole, outlined_bytes}
use Rattle.twkb_body.proofs.Outlines.{same_count}
use Rattle.twkb_body.proofs.HeaderParts.{HeaderRead, sums_behind, bare_header_read, sized_header_read}
use Rattle.twkb_body.proofs.HeaderParts.{header_point_read}
use Rattle.twkb_engine.specs.Collections.{frames_of}
use Rattle.twkb_engine.specs.Fits.{IsByte}
use Rattle.twkb_engine.specs.Stops.{Stop}
use Rattle.twkb_engine.specs.declared.next_item.NextItem.TheVariants as next

-- ==== The fields of an engine as one value, by which two engines are compared.

-- the fields, with the sums of the items as one
pub record Fields : Type 0 where
  pub limits : Allowance
  pub start : ℕ
  pub sums : Sums
  pub collections : List OpenCollection
  pub head : Head
  pub ids : MemberIds
  pub members_left : ℕ
  pub rings_left : ℕ
  pub points_left : ℕ
  pub next : NextItem
  pub held : List ℕ

abbrev pub fields_of : Engine → Fields
fields_of d = record {
  limits = d.limits;
  start = d.start;
  sums = sums_of d;
  collections = d.collections;
  head = d.head;
  ids = d.ids;
  members_left = d.members_left;
  rings_left = d.rings_left;
  points_left = d.points_left;
  next = d.next;
  held = d.held;
}

-- so many bytes further, at this point, with these ids, members and points left
abbrev pub moved_to : Engine → (used : ℕ) → Point → MemberIds → (members points : ℕ) → Fields
moved_to d used to ids members points =
    let s : Sums = record { bytes = d.bytes + used; position = to; nodes = d.nodes; points = d.points } in
    record (fields_of d) { sums = s; ids = ids; members_left = members; points_left = points }

-- an engine that moved on so
pub moved_fields : {d m : Engine} {used : ℕ} → Stays d m → MovesOn d used m
    → fields_of m ≡ moved_to d used m.position d.ids d.members_left m.points_left
moved_fields {m = m} same moves = λ i. record {
  limits = same.limits i;
  start = same.start i;
  sums = record {
    bytes = moves.bytes i;
    position = m.position;
    nodes = moves.nodes i;
    points = moves.points i;
  };
  collections = moves.collections i;
  head = moves.head i;
  ids = moves.ids i;
  members_left = moves.members_left i;
  rings_left = moves.rings_left i;
  points_left = m.points_left;
  next = moves.next i;
  held = same.held i;
}

-- two engines that differ in the bytes of a number alone
abbrev pub SameItem : Engine → Engine → Type 0
SameItem d e = fields_of e ≡ record (fields_of d) { held = held_in e }

-- ==== An item that comes next: its role, what it notes, and the stage after it and the ends that follow.

-- an item that begins and ends nothing notes nothing
pub quiet_noted : {S : Type 0} (holds : S → Notes → Type 0) (r : Role) (n width : ℕ) (d e : Engine)
    (old : S) → IsQuiet r → open_in e ≡ open_in d
    → NotesGo holds (notes_with r n width d e false) d old old
quiet_noted holds r n width d e old q same = λ w begun h.
    let at : ℕ = d.start + (d.bytes + width) in
    let points : ℕ = d.points + points_by r n in
    let none : length w.begun - open_in e ≡ 0 = omega (arith, begun, same) in
    subst (holds old) (sym (ap (note_ends_to (open_in e) at points)
    (quiet d.start (sums_of d) r n w q) ∙ ap (λ k. note_ends k at points w) none)) h

-- an x
pub x_noted : {S : Type 0} (holds : S → Notes → Type 0) (r : Role) (n width : ℕ) (d e : Engine)
    (old : S) (answer : Result Bool Stop) → d.next ≡ next.X → IsNext r d
    → IfOk answer (λ ends. (ends ≡ false) × (open_in e ≡ open_in d))
    → IfOk answer (λ ends. NotesGo holds (notes_with r n width d e ends) d old old)
x_noted holds r n width d e old (Ok false) is says same =
    let x = ap (λ i. stage_role (length (outline_in d).0) d.bytes (stage_at i d)) (sym is) ∙ says in
    quiet_noted holds r n width d e old (subst IsQuiet (sym (some_role role.X r x)) tt) same.1
x_noted holds r n width d e old (Ok true) is says same = absurd (let f = same.0 in cc)
x_noted holds r n width d e old (Err stop) is says same = tt

-- ---- the role of the next item

has_role : (level bytes : ℕ) (i : NextItem) (d : Engine) → (r : Role)
    × (stage_role level bytes (stage_at i d) ≡ Some r)
    × ((IsByte i × IsByteRole r) ⊎ ((IsByte i → ⊥) × IsNumber r))
has_role level bytes next.TypeByte d = (role.Header, refl, inl (tt, tt))
has_role level bytes next.MetadataByte d = (role.Metadata (kind_number (kind_of d.head.kind)), refl, inl (tt, tt))
has_role level bytes next.ExtendedByte d = (role.Extended, refl, inl (tt, tt))
has_role level bytes next.Size d = (role.Size, refl, inr (λ b. b, tt))
has_role level bytes (next.BoxNumber left) d = (role.Box, refl, inr (λ b. b, tt))
has_role level bytes next.MemberCount d = (role.Count (first_count (many_of d.head.kind) level), refl, inr (λ b. b, tt))
has_role level bytes next.Id d = (role.Id, refl, inr (λ b. b, tt))
has_role level bytes next.X d = (role.X, refl, inr (λ b. b, tt))
has_role level bytes next.Y d = (role.Y, refl, inr (λ b. b, tt))
has_role level bytes next.PointCount d = (role.Count (listed 0), refl, inr (λ b. b, tt))
has_role level bytes next.RingCount d = (role.Count (listed 1), refl, inr (λ b. b, tt))

pub next_role : (d : Engine) → (r : Role) × IsNext r d
    × ((IsByte d.next × IsByteRole r) ⊎ ((IsByte d.next → ⊥) × IsNumber r))
next_role d = has_role (length (frames_of d.collections)) d.bytes d.next d

-- what may stand there, in the role that it has
pub next_no_end : (d : Engine) → NoEnd (next_role d).0
next_no_end d = elim ((next_role d).2) [
  | inl k ↦ byte_no_end (next_role d).0 k.1
  | inr k ↦ number_no_end (next_role d).0 k.1
]

pub next_number : (d : Engine) → (IsByte d.next → ⊥) → IsNumber (next_role d).0
next_number d spelled = elim ((next_role d).2) [ inl k ↦ absurd (spelled k.0) | inr k ↦ k.1 ]

pub byte_written : (d : Engine) (n : ℕ) → n < 256 → IsByte d.next → Gives (next_role d).0 n (n ∷ [])
byte_written d n low b = elim ((next_role d).2)
    [ inl k ↦ byte_gives (next_role d).0 n k.1 low | inr k ↦ absurd (k.0 b) ]

pub number_written : (d : Engine) (n : ℕ) (bs : List ℕ) → IsVarint bs n → (IsByte d.next → ⊥)
    → Gives (next_role d).0 n bs
number_written d n bs v spelled = number_gives (next_role d).0 n bs (next_number d spelled) v

-- ---- the ends after an item, and what they note

ok_same : (o p : Outline) → ◌≡◌ {A = Result Outline Reason} (Ok o) (Ok p) → o ≡ p
ok_same o p at = cc

-- as many geometries are begun in the notes as stand open
pub open_noted : (limits : Allowance) (bytes : List ℕ) (e : Sums) (o : Outline) (rs : List Row)
    (r : Outlined limits bytes e o rs) (start : ℕ) → length (notes_in start r).begun ≡ open_count o
open_noted limits bytes e o rs r start = all_open start r.reached.items nothing no_notes
    ∙ (sym (reached_frames limits bytes e r.stack r.reached)
    ∙ (same_count r.stack.0 r.stack.1 ∙ ap open_count r.outline))

module _ (limits : Allowance) (bytes : List ℕ) (e : Sums) (rs : List Row) where
  -- one geometry ends
  noted_end : (gs : List FrameOutline) (h : MachineHead) (told : ℕ → Notes)
      → is_exact h.size (e.bytes - h.from) ≡ true → NotedOutline limits bytes e
      (gs, OnEnd h) rs told
      → NotedOutline limits bytes e (outline_ended gs) rs (λ start. note_end (start + e.bytes) e.points (told start))
  noted_end gs h told exact n =
      let i : Item = record { role = role.End h.size (e.bytes - h.from); number = 0; bytes = [] } in
      let after : ℕ → Notes = λ start. note_end (start + e.bytes) e.points (told start) in
      let a : NotedOutline limits (bytes ++ []) (added e i) (outline_ended gs) rs after = noted_item
      limits bytes e (gs, OnEnd h) rs told i n refl (refl, refl)
      (ap (λ b. unless (not b) SizeMismatch None) exact) in
      let same : added e i ≡ e = λ t. record {
        bytes = add-zero e.bytes t;
        position = e.position;
        nodes = add-zero e.nodes t;
        points = add-zero e.points t;
      } in
      subst (λ T. T) (λ t. NotedOutline limits (append-nil bytes t) (same t) (outline_ended gs) rs after) a

  abbrev Past : Outline → (ℕ → Notes) → Type 0
  Past p told = (k : ℕ) × NotedOutline limits bytes e p rs
      (λ start. note_ends k (start + e.bytes) e.points (told start))

  one_more : (p : Outline) (told : ℕ → Notes) → Past p
      (λ start. note_end (start + e.bytes) e.points (told start)) → Past p told
  one_more p told (k, n) = (
    suc k,
    record {
      outlined = n.outlined;
      notes = λ start. n.notes start
          ∙ ends_swap k (start + e.bytes) e.points (told start);
    },
  )

  none_past : (o p : Outline) (told : ℕ → Notes) → ◌≡◌ {A = Result Outline Reason} (Ok o) (Ok p)
      → NotedOutline limits bytes e o rs told → Past p told
  none_past o p told at n =
      (0, subst (λ q. NotedOutline limits bytes e q rs told) (ok_same o p at) n)

  -- it ends, and the collections of which it is the last member
  noted_past : (gs : List FrameOutline) (h : MachineHead) (told : ℕ → Notes) (p : Outline) (b : Bool)
      → is_exact h.size (e.bytes - h.from) ≡ b → outline_past_end b e.bytes gs ≡ Ok p
      → NotedOutline limits bytes e (gs, OnEnd h) rs told → Past p told
  noted_past gs h told p false x at n = absurd cc
  noted_past [] h told p true x at n =
      one_more p told (none_past ([], OnFinished) p _ at (noted_end [] h told x n))
  noted_past (g ∷ gs) h told p true x at n =
      let after : ℕ → Notes = λ start. note_end (start + e.bytes) e.points (told start) in
      let back = λ (m : ℕ). record g { left = m } ∷ gs in
      one_more p told (elim g.left as (λ m. outline_past_end true e.bytes (back m) ≡ Ok p
      → NotedOutline limits bytes e (outline_ended (back m)) rs after → Past p after) [
        | zero ↦ noted_past gs g.head after p (is_exact g.head.size (e.bytes - g.head.from)) refl
        | suc k ↦ none_past (outline_ended (back (suc k))) p after
      ] at (noted_end (g ∷ gs) h told x n))

  any_past : (gs : List FrameOutline) (s : Stage) (p : Outline) (told : ℕ → Notes)
      → outline_ends e.bytes (gs, s) ≡ Ok p → NotedOutline limits bytes e (gs, s) rs told
      → Past p told
  any_past gs (OnEnd h) p told at n =
      noted_past gs h told p (is_exact h.size (e.bytes - h.from)) refl at n
  any_past gs s p told at n = none_past (gs, s) p told at n

  -- past the ends after an item
  pub noted_ends : (o p : Outline) (told : ℕ → Notes) → outline_ends e.bytes o ≡ Ok p
      → NotedOutline limits bytes e o rs told
      → NotedOutline limits bytes e p rs (λ start. note_ends_to (open_count p) (start + e.bytes) e.points (told start))
  noted_ends o p told at n =
      let (k, q) = any_past o.0 o.1 p told at n in
      record {
        outlined = q.outlined;
        notes = λ start. q.notes start ∙ (ends_to k (start + e.bytes) e.points (told start)
            ∙ ap (λ m. note_ends_to m (start + e.bytes) e.points (told start))
            (ap (λ (w : Notes). length w.begun) (sym (q.notes start))
            ∙ open_noted limits bytes e p rs q.outlined start));
      }

-- ---- a blob that is complete

pub blob_told : (limits : Allowance) (bytes : List ℕ) (g : Tree) (items : List Item)
    → Ran limits items ([], Finished g) → join items ≡ bytes
    → (b : Blob limits bytes g) × ((start : ℕ) → (noted start nothing no_notes items).spans ≡ spans_of_blob start b)
blob_told limits bytes g items ran spelled =
    subst (λ l. (b : Blob limits l g) × ((start : ℕ)
    → (noted start nothing no_notes items).spans ≡ spans_of_blob start b)) spelled
    (here, λ start. ap (λ (w : Notes). w.spans) (blob_noted limits (join items) g start here))
  where
    here : Blob limits (join items) g
    here = record {
      valid = (ran_blob limits items g ran).valid;
      items = items;
      are_items = (runs_are_items g items ran.runs).0;
      exact = ran.exact;
      spelled = refl;
    }

-- its rows and its spans
abbrev Whole : (limits : Allowance) (bytes : List ℕ) (items : List Item) (rs : List Row) → Type 0
Whole limits bytes items rs = (g : Tree) × (rs ≡ rows 0 g) × (b : Blob limits bytes g)
    × ((start : ℕ) → (noted start nothing no_notes items).spans ≡ spans_of_blob start b)

finished : (limits : Allowance) (bytes : List ℕ) (e : Sums) (fs : List Frame) (ph : Phase)
    → Rattle.std.specs.Prelude.map frame_outline fs ≡ [] → stage_of ph ≡ OnFinished
    → (r : Reached limits bytes e (fs, ph)) → Whole limits bytes r.items (rows_so_far (fs, ph))
finished limits bytes e [] (Finished g) none same r = let told = blob_told limits bytes g r.items
    r.ran r.spelled in (g, refl, told.0, told.1)
finished limits bytes e fs (AtBody h f ids (Want d a)) none same r = absurd cc
finished limits bytes e fs _ none same r = absurd cc

pub outlined_blob : (limits : Allowance) (bytes : List ℕ) (e : Sums) (rs : List Row)
    (r : Outlined limits bytes e ([], OnFinished) rs) → Whole limits bytes r.reached.items rs
outlined_blob limits bytes e rs r =
    subst (Whole limits bytes r.reached.items) r.rows
    (finished limits bytes e r.stack.0 r.stack.1 (ap (λ (o : Outline). o.0) r.outline)
    (ap (λ (o : Outline). o.1) r.outline) r.reached)

-- ---- what an engine stands for

-- its outline, with its notes
pub noted_at : {bs : List ℕ} {rs : List Row} {d : Engine} (s : StandsAt bs rs d)
    → NotedOutline d.limits s.front (sums_of d) (outline_in d) rs (λ start. notes_in start s.outlined)
noted_at s = record { outlined = s.outlined; notes = λ start. refl }

-- an engine whose fields say so stands there, with these notes
pub stands_there : {limits : Allowance} {bytes : List ℕ} {sums : Sums} {o : Outline} {rs : List Row}
    {told : ℕ → Notes} (all : List ℕ) (more : List Row) (e : Engine)
    → NotedOutline limits bytes sums o rs told → e.limits ≡ limits → sums_of e ≡ sums
    → outline_in e ≡ o → more ≡ rs → IsPlaced e.next e → all ≡ bytes ++ held_in e
    → (IsByte e.next → ⊥) ⊎ (held_in e ≡ [])
    → (t : StandsAt all more e) × (t.front ≡ bytes) × (notes_at t ≡ told e.start)
stands_there {bytes = bytes} {told = told} all more e n limits sums is rows placed whole spelled =
    let m = subst (λ (x : Allowance × Sums × Outline × List Row). NotedOutline x.0 bytes x.1 x.2 x.3 told)
    (λ i. (sym limits i, sym sums i, sym is i, sym rows i)) n in (
      record {
        front = bytes;
        whole = whole;
        outlined = m.outlined;
        placed = placed;
        spelled = spelled;
      },
      refl,
      m.notes e.start,
    )

-- one that holds no byte of a number
pub stands_whole : {limits : Allowance} {bytes : List ℕ} {sums : Sums} {o : Outline} {rs : List Row}
    {told : ℕ → Notes} (all : List ℕ) (more : List Row) (e : Engine)
    → NotedOutline limits bytes sums o rs told → e.limits ≡ limits → sums_of e ≡ sums
    → outline_in e ≡ o → more ≡ rs → IsPlaced e.next e → all ≡ bytes → held_in e ≡ []
    → (t : StandsAt all more e) × (notes_at t ≡ told e.start)
stands_whole {bytes = bytes} all more e n limits sums is rows placed at none =
    let whole = at ∙ sym (ap (λ l. bytes ++ l) none ∙ append-nil bytes) in
    let t = stands_there all more e n limits sums is rows placed whole (inr none) in
    (t.0, t.2)

-- a blob begins
pub stands_begun : (offset : ℕ) (d : Engine) → BeginsAt offset d → held_in d ≡ [] → StandsAt [] [] d
stands_begun offset d b none = (stands_whole [] [] d
    (record { outlined = outlined_start d.limits d.allowed; notes = λ start. refl }) refl
    (λ t. record { bytes = b.bytes t; position = b.position t; nodes = b.nodes t; points = b.points t })
    (λ t. (b.collections t, stage_at (b.next t) d)) refl
    (subst (λ j. IsPlaced j d) (sym b.next) tt) refl none).0

-- if no byte is held the bytes are complete items
pub all_whole : (bytes : List ℕ) (rs : List Row) (d : Engine) → held_in d ≡ []
    → (s : StandsAt bytes rs d) → bytes ≡ s.front
all_whole bytes rs d none s = s.whole ∙ (ap (λ l. s.front ++ l) none ∙ append-nil s.front)

-- ---- the bytes of a number

stage_else : (i : NextItem) (d e : Engine) → SameItem d e → stage_at i e ≡ stage_at i d
stage_else next.TypeByte d e q = refl
stage_else i d e q =
    simp (
      ap (λ (g : Fields). g.head) q,
      ap (λ (g : Fields). g.ids) q,
      ap (λ (g : Fields). g.members_left) q,
      ap (λ (g : Fields). g.rings_left) q,
      ap (λ (g : Fields). g.points_left) q,
    )

placed_else : (i : NextItem) (d e : Engine) → SameItem d e → IsPlaced i d → IsPlaced i e
placed_else next.TypeByte d e q p = tt
placed_else next.MetadataByte d e q p = tt
placed_else i d e q p =
    subst (λ (g : Fields). IsHeadAt (length (frames_of g.collections)) (id_in (frames_of g.collections)) g.head)
    (sym q) p

pub stands_else : (bs all : List ℕ) (rs : List Row) (d e : Engine) → SameItem d e
    → (s : StandsAt bs rs d) → all ≡ s.front ++ held_in e → (IsByte d.next → ⊥) ⊎ (held_in e ≡ [])
    → (t : StandsAt all rs e) × (t.front ≡ s.front) × (notes_at t ≡ notes_at s)
stands_else bs all rs d e q s whole spelled =
    let next = ap (λ (g : Fields). g.next) q in
    let outline : outline_in e ≡ outline_in d = λ t.
    (frames_of (q t).collections, (ap (λ i. stage_at i e) next ∙ stage_else d.next d e q) t) in
    let t = stands_there all rs e (noted_at s) (ap (λ (g : Fields). g.limits) q) (ap (λ (g : Fields). g.sums) q)
    outline refl (subst (λ i. IsPlaced i e) (sym next) (placed_else d.next d e q s.placed)) whole
    (subst (λ i. (IsByte i → ⊥) ⊎ (held_in e ≡ [])) (sym next) spelled) in
    (t.0, t.1, t.2 ∙ ap (λ start. notes_in start s.outlined) (ap (λ (g : Fields). g.start) q))

-- ==== A blob that is a single point, complete at the start of the bytes.

abbrev first_precision : List ℕ → ℤ
first_precision bytes = unzigzag_of (get_or bytes 0 0 / 16)

-- the rows of such a blob
abbrev root_rows : List ℕ → Point → List Row
root_rows bytes to = whole_row 0 kind.Point None (first_precision bytes) (to ∷ []) ∷ []

-- what is read of its header
abbrev known_by : (first : ℕ) → Option ℕ → MachineHead
known_by first size = record {
  precision = unzigzag_of (first / 16);
  meta = metadata_with size;
  size = size;
  from = length (header_bytes first size);
}

-- the header of such a point was read
header_read : (limits : Allowance) (first : ℕ) → IsAllowance limits → first < 256 → first % 16 ≡ 1 → 0 < limits.points
    → (size : Option ℕ) → IfSome size (λ n. n < 128)
    → HeaderRead limits [] nothing [] [] (header_bytes first size) (known_by first size)
header_read limits first allowed low kind room None short = bare_header_read limits [] nothing [] []
    first (outlined_start limits allowed) low kind room
header_read limits first allowed low kind room (Some n) short = sized_header_read limits [] nothing
    [] [] first (outlined_start limits allowed) low kind room n short

-- a size that is exact is so after the header
exact_behind : (size : Option ℕ) (first used : ℕ) → is_exact size (used - 3) ≡ true
    → is_exact size ((0 + used) - (known_by first size).from) ≡ true
exact_behind None first used exact = refl
exact_behind (Some n) first used exact = let same : (0 + used) - 3 ≡ used - 3 = omega arith in
    ap (λ k. is_exact (Some n) k) same ∙ exact

-- such a point is a blob
pub point_blob : (limits : Allowance) (bytes : List ℕ) (used : ℕ) (size : Option ℕ) (to : Point)
    → IsAllowance limits → 0 < limits.points → WholePoint bytes to used size
    → get_or bytes 0 0 < 256 → is_exact size (used - 3) ≡ true
    → MadeIn limits [] bytes used (root_rows bytes to)
point_blob limits bytes used size to allowed some p low exact =
    let first = get_or bytes 0 0 in
    let known = known_by first size in
    let blob : List ℕ = take used bytes in
    let after : ℕ → Sums = λ n. sums_behind nothing n to in
    let rows_are = root_rows bytes to in
    let there = header_point_read limits [] nothing [] [] (header_bytes first size) p.steps known to
    (header_read limits first allowed low p.kind some size p.short) p.pair in
    let cut = subst (λ l. Outlined limits l (after (length l)) ([], OnEnd known) rows_are)
    (sym p.whole) there in
    let ended = subst (λ n. Outlined limits blob (after n) ([], OnEnd known) rows_are)
    (length-take-le used bytes p.within) cut in
    let way = ap (λ t. outline_past_end t (0 + used) []) (exact_behind size first used exact) in
    let w = outlined_whole limits blob (after used) rows_are (subst (OutlineLanded limits blob
    (after used) rows_are) way (outlined_ends limits blob (after used) ([], OnEnd known)
    rows_are ended)) in
    record { some = p.some; within = p.within; geometry = w.0; blob = w.1; made = sym w.2 }

-- the only row is this one, a point's of this precision
abbrev IsPointRow : List Row → Row → ℤ → Type 0
IsPointRow rs own p = (rs ≡ own ∷ []) × (own.kind ≡ kind.Point) × (own.precision ≡ Some p) × (length own.points ≡ 1)

-- and then the first row is a point's
first_kind : (rs : List Row) (own : Row) (p : ℤ) → IsPointRow rs own p → (get_or rs 0 own).kind ≡ kind.Point
first_kind rs own p (is, named, precise, alone) = ap (λ l. (get_or l 0 own).kind) is ∙ named

-- a blob of such a row has one span
point_spans : (limits : Allowance) (bytes : List ℕ) (g : Tree) (start : ℕ) (p : ℤ) (own : Row)
    (b : Blob limits bytes g) → p ≡ first_precision bytes → IsPointRow (rows 0 g) own p
    → spans_of_blob start b ≡ point_span start bytes ∷ []
point_spans limits bytes (simple q (point o)) start p own b first (is, named, precise, alone) =
    let some : Some q ≡ Some p = ap (λ l. (get_or l 0 own).precision) is ∙ precise in
    let alike : q ≡ p = cc in
    let same : q ≡ first_precision bytes = alike ∙ first in
    let one : length (point_list o) ≡ 1 = ap (λ l. length (get_or l 0 own).points) is ∙ alone in
    let all : length (join b.items) ≡ length bytes = ap length b.spelled in
    let meta : b.are_items.meta ≡ get_or bytes 1 0 = ap (λ l. get_or (join l) 1 0)
    (sym b.are_items.whole) ∙ ap (λ l. get_or l 1 0) b.spelled in
    λ t. record {
      level = 0;
      offset = start;
      kind = kind.Point;
      precision = same t;
      metadata = meta t;
      length = all t;
      points = one t;
    } ∷ []
point_spans limits bytes g start p own b first is =
    absurd (let k = first_kind (rows 0 g) own p is in cc)

-- a point at the start of these bytes has the span of its bytes
root_spans : (limits : Allowance) (start used : ℕ) (piece : List ℕ) (g : Tree) (to : Point)
    (b : Blob limits (take used piece) g) → 3 ≤ used → root_rows piece to ≡ rows 0 g
    → point_span start (take used piece) ∷ [] ≡ spans_of_blob start b
root_spans limits start used piece g to b long made =
    let p : ℤ = first_precision piece in
    let own : Row = whole_row 0 kind.Point None p (to ∷ []) in
    let first : p ≡ first_precision (take used piece) = ap (λ n. unzigzag_of (n / 16))
    (sym (get_or-take used piece 0 0 (omega (arith, long)))) in
    sym (point_spans limits (take used piece) g start p own b first (sym made, refl, refl, refl))

pub blob_judged : (limits : Allowance) (bytes : List ℕ) (g : Tree) → Blob limits bytes g → IsJudged limits bytes
blob_judged limits bytes g b = record {
  part = blob_is_part limits bytes g b;
  exact = λ more f. no_fault limits (bytes ++ more) more g (length bytes) SizeMismatch
      (record { front = bytes; whole = refl; blob = b }) f.fault;
}

-- ---- an engine that took no byte since the last blob

type_byte : (i : NextItem) (d : Engine) → stage_at i d ≡ OnHeader → i ≡ next.TypeByte
type_byte next.TypeByte d e = refl
type_byte i d e = cc

module _ (bs : List ℕ) (rs : List Row) (d : Engine) (s : StandsAt bs rs d) (bare : d.bytes ≡ 0)
    (none : held_in d ≡ []) where
  no_front : s.front ≡ []
  no_front = nil_from_length s.front
      (omega (
        arith,
        outlined_bytes d.limits s.front (sums_of d) (outline_in d) rs
            s.outlined,
        bare,
      ))

  pub no_bytes : bs ≡ []
  no_bytes = all_whole bs rs d none s ∙ no_front

  items : s.outlined.reached.items ≡ []
  items = no_items s.outlined.reached.items s.outlined.stack s.outlined.reached.ran.runs
      (s.outlined.reached.spelled ∙ no_front)

  stack : started ≡ s.outlined.stack
  stack = subst (λ is. Runs nothing started is s.outlined.stack) items s.outlined.reached.ran.runs

  outline : outline_in d ≡ ([], OnHeader)
  outline = sym (ap outline_of stack ∙ s.outlined.outline)

  sums : sums_of d ≡ nothing
  sums = sym (ap (λ is. sums_after nothing is) (sym items) ∙ s.outlined.reached.sums)

  pub begins : BeginsAt d.start d
  begins = record {
    start = refl;
    next = type_byte d.next d (λ t. (outline t).1);
    bytes = bare;
    nodes = λ t. (sums t).nodes;
    points = λ t. (sums t).points;
    position = λ t. (sums t).position;
    collections = λ t. (outline t).0;
  }

  pub noted_none : notes_at s ≡ no_notes
  noted_none = ap (λ is. noted d.start nothing no_notes is) items

-- there is no memory for it
pub root_stops : (rs : List Row) (d : Engine) (piece : List ℕ) (used : ℕ) (more : List Row)
    → d.bytes ≡ 0 → held_in d ≡ [] → MadeIn d.limits [] piece used more → StopsIn rs d piece
root_stops rs d piece used more bare none m = λ bs s.
    subst (λ l. PartIn d.limits l piece) (sym (no_bytes bs rs d s bare none))
    (record {
      used = used;
      some = m.some;
      within = m.within;
      part = blob_judged d.limits (take used piece) m.geometry m.blob;
    })

-- the point was taken
pub root_fed : {S : Type 0} (holds : S → Notes → Type 0) (bs piece : List ℕ) (rs more : List Row)
    (d e : Engine) (old new : S) (used : ℕ) (to : Point) (s : StandsAt bs rs d) → d.bytes ≡ 0
    → held_in d ≡ [] → held_in e ≡ [] → (BeginsAt d.start d → BeginsAt (d.start + used) e)
    → 3 ≤ used → MadeIn d.limits [] piece used more → more ≡ root_rows piece to
    → (holds old no_notes → holds new
    (record { spans = point_span d.start (take used piece) ∷ []; begun = [] })) → IsFed holds
    (holds old (notes_at s)) d.limits d.start bs piece (Ok (used, true)) more e new
root_fed holds bs piece rs more d e old new used to s bare none alone onward long m row put =
    let none_read = no_bytes bs rs d s bare none in
    let b = onward (begins bs rs d s bare none) in
    let spans = root_spans d.limits d.start used piece m.geometry to m.blob long (sym row ∙ m.made) in
    let both = subst (λ l. (x : Blob d.limits (l ++ take used piece) m.geometry)
    × (point_span d.start (take used piece) ∷ [] ≡ spans_of_blob d.start x)) (sym none_read)
    (m.blob, spans) in (
      record { some = m.some; within = m.within; geometry = m.geometry; blob = both.0; made = m.made },
      λ known. (
        record { spans = point_span d.start (take used piece) ∷ []; begun = [] },
        put (subst (holds old) (noted_none bs rs d s bare none) known),
        both.1,
      ),
      stands_begun (d.start + used) e b alone,
      omega (arith, b.start, ap (λ (l : List ℕ). length l) none_read),
    )
