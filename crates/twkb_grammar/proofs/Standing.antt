-- The state of a reader of a stream by the bytes alone, and what one more byte adds to it.
use Rattle.std.proofs.Common.{◌≡◌, ℕ, ◌+◌, ◌<◌, List, [], ◌∷◌, ◌++◌, length, refl, sym, ap, ◌∙◌, subst, append_assoc}
use Rattle.std.proofs.Common.{append-nil, arith, Option, Some, None, inl, inr, length-append, ◌-◌}
use Rattle.std.specs.Prelude.{◌≢◌, ◌⊎◌}
use Rattle.twkb_num.specs.Varint.{IsVarint}
use Rattle.twkb_tree.specs.Tree.{Tree, flat}
use Rattle.twkb_tree.specs.Limits.{Allowance, IsAllowance}
use Rattle.twkb_grammar.specs.Roles.{Role, Header, Metadata, Extended, Count, Id, End, IsNumber, Item, Spells, join}
use Rattle.twkb_grammar.specs.Roles.{IsItem}
use Rattle.twkb_grammar.specs.Items.{Blob, Stream}
use Rattle.twkb_grammar.specs.Fault.{Truncated, GoOn, FirstFault, StreamFault, points_by}
use Rattle.twkb_grammar.specs.Machine.{Finished, Sums, nothing, sums_after, Stack, started, role_at, Runs, stack_after}
use Rattle.twkb_grammar.specs.Machine.{first_count, phase_role, Phase}
use Rattle.twkb_grammar.specs.Machine.{AtHeader, AtMetadata, AtOption, AtCount, AtId, AtBody, AtEnd, kind_number, Frame}
use Rattle.twkb_grammar.specs.Machine.{added}
use Rattle.twkb_grammar.specs.Reading.{Stands, IsSamePlace, frame_count}
use Rattle.twkb_grammar.specs.Noting.{Notes, no_notes, noted_by, noted, note_byte, note_ends, note_ends_to, IsQuiet}
use Rattle.twkb_grammar.specs.Noting.{IsCalm, notes_of, spans_of_blob}
use Rattle.twkb_grammar.proofs.BodiesBack.{some_role, sums_after-append}
use Rattle.twkb_grammar.proofs.Stepping.{run_ends}
use Rattle.twkb_grammar.proofs.Streams.{no_items, streams_same}
use Rattle.twkb_grammar.proofs.Trees.{tree_total, total}
use Rattle.twkb_grammar.proofs.Parts.{blob_runs, runs_same, run_on, peel, reached_frames, body_each}
use Rattle.twkb_grammar.proofs.OneFault.{Beyond, Compared, longer, shorter, same, two_fronts, none_beyond}
use Rattle.twkb_grammar.proofs.OneFault.{left_cancel, join-beyond}
use Rattle.twkb_grammar.proofs.Running.{reached_nothing, role_behind, reached_bytes, reached_cut, reached_end}
use Rattle.twkb_grammar.proofs.Bodies.{Runs-append, bytes_after}
use Rattle.twkb_grammar.proofs.NotedSpans.{AreEnds, ends_only, none_front, ends_noted, ends_add, all_open, ends_to}
use Rattle.twkb_grammar.proofs.NotedSpans.{Same, blob_noted, noted-append, points_total, quiet}

-- ==== The state of a reader of a stream is determined by the bytes alone, and so is its answer at their end.

-- no complete number is in bytes that all say that more follow
no_number : (n : ℕ) (bytes more : List ℕ) → IsVarint bytes n → GoOn (bytes ++ more) → ⊥
no_number n bytes more v go_on = run_ends bytes more v.marked go_on

no_byte : (n : ℕ) (bytes more : List ℕ) → bytes ≡ n ∷ [] → (bytes ++ more ≡ []) ⊎ ⊥ → ⊥
no_byte n bytes more b (inl e) = let z : n ∷ more ≡ [] = sym (ap (λ l. l ++ more) b) ∙ e in cc
no_byte n bytes more b (inr h) = h

no_item : (r : Role) (n : ℕ) (bytes more : List ℕ) → Spells r n bytes
    → ((d : Option ℕ) (came : ℕ) → r ≡ End d came → ⊥) → GoOn (bytes ++ more) → (bytes ++ more ≡ [])
    ⊎ IsNumber r → ⊥
no_item Header n bytes more s some go_on h = no_byte n bytes more s.3 h
no_item (Metadata k) n bytes more s some go_on h = no_byte n bytes more s.1 h
no_item Extended n bytes more s some go_on h = no_byte n bytes more s.2 h
no_item (End d came) n bytes more s some go_on h = some d came refl
no_item _ n bytes more s some go_on h = no_number n bytes more s go_on

module _ (limits : Allowance) (bytes : List ℕ) (gs : List Tree) (e : Sums) (st : Stack)
    (held : List ℕ) (s : Stands limits bytes gs e st held) where
  -- no items continue beyond those of a reader, over the same bytes
  pub none_longer : (is : List Item) (last : Stack) (x : List ℕ) → Runs nothing started is last
      → join is ++ x ≡ s.middle ++ held → Beyond is s.reached.items → ⊥
  none_longer is last x r at b =
      let t = run_on s.reached.items (b.next ∷ b.more) st last (subst (λ l. Runs nothing started l last) b.whole r)
      s.reached.ran.runs in
      let role : b.next.role ≡ s.role = some_role s.role b.next.role
      (sym (role_behind limits s.middle e st s.role s.reached s.wants) ∙ t.0) in
      let here : join s.reached.items ++ ((b.next.bytes ++ join b.more) ++ x) ≡ join s.reached.items ++ held =
      sym (append_assoc (join s.reached.items) (b.next.bytes ++ join b.more) x)
      ∙ (ap (λ l. l ++ x) (sym (join-beyond s.reached.items b.more b.next)
      ∙ ap join (sym b.whole)) ∙ (at ∙ ap (λ l. l ++ held) (sym s.reached.spelled))) in
      let stands : held ≡ b.next.bytes ++ (join b.more ++ x) =
      sym (left_cancel (join s.reached.items) ((b.next.bytes ++ join b.more) ++ x) held here)
      ∙ append_assoc b.next.bytes (join b.more) x in
      no_item s.role b.next.number b.next.bytes (join b.more ++ x)
      (subst (λ r. Spells r b.next.number b.next.bytes) role t.1) s.spelled
      (subst (λ l. GoOn l) stands s.go_on) (subst (λ l. (l ≡ []) ⊎ IsNumber s.role) stands s.number)

  -- the items are not those of a whole blob
  pub unfinished : (is : List Item) (g : Tree) → Runs nothing started is ([], Finished g) → is ≡ s.reached.items
      → None ≡ Some s.role
  unfinished is g whole alike = ap (λ y. role_at e y) (runs_same is nothing started ([], Finished g) st whole
      (subst (λ l. Runs nothing started l st) (sym alike) s.reached.ran.runs)) ∙ s.wants

  -- no blob is at the start of such bytes
  none_whole : (g : Tree) (front x : List ℕ) → Blob limits front g → front ++ x ≡ s.middle ++ held → ⊥
  none_whole g front x b at =
      go (two_fronts b.items s.reached.items nothing started ([], Finished g) st x held whole
      s.reached.ran.runs (there ∙ ap (λ l. l ++ held) (sym s.reached.spelled)))
    where
      whole : Runs nothing started b.items ([], Finished g)
      whole = blob_runs limits front g b

      there : join b.items ++ x ≡ s.middle ++ held
      there = ap (λ l. l ++ x) b.spelled ∙ at

      go : Compared b.items s.reached.items → ⊥
      go (longer n) = none_longer b.items ([], Finished g) x whole there n
      go (shorter n) = none_beyond b.items s.reached.items g st whole s.reached.ran.runs n
      go (same i) =
          let z : None ≡ Some s.role = unfinished b.items g whole i in absurd cc

-- two readers that have given the same geometries are in the same state
same_place : (limits : Allowance) (bytes other : List ℕ) (gs hs : List Tree) (e f : Sums)
    (st su : Stack) (held kept : List ℕ) (s : Stands limits bytes gs e st held)
    (t : Stands limits other hs f su kept)
    → s.middle ++ held ≡ t.middle ++ kept → IsSamePlace [] [] e f st su held kept
same_place limits bytes other gs hs e f st su held kept s t at =
    go (two_fronts s.reached.items t.reached.items nothing started st su held kept
    s.reached.ran.runs t.reached.ran.runs there)
  where
    left : join s.reached.items ++ held ≡ s.middle ++ held
    left = ap (λ l. l ++ held) s.reached.spelled

    right : join t.reached.items ++ kept ≡ t.middle ++ kept
    right = ap (λ l. l ++ kept) t.reached.spelled

    there : join s.reached.items ++ held ≡ join t.reached.items ++ kept
    there = left ∙ (at ∙ sym right)

    go : Compared s.reached.items t.reached.items → IsSamePlace [] [] e f st su held kept
    go (longer n) = absurd (none_longer limits other hs f su kept t s.reached.items st held
        s.reached.ran.runs (left ∙ at) n)
    go (shorter n) = absurd (none_longer limits bytes gs e st held s t.reached.items su kept
        t.reached.ran.runs (right ∙ sym at) n)
    go (same i) = record {
      geometries = refl;
      sums = sym s.reached.sums ∙ (ap (λ l. sums_after nothing l) i ∙ t.reached.sums);
      stack = runs_same t.reached.items nothing started st su
          (subst (λ l. Runs nothing started l st) i s.reached.ran.runs) t.reached.ran.runs;
      bytes = peel (join s.reached.items) (join t.reached.items) held kept (ap join i) there;
    }

-- the bytes determine the state of a reader
pub one_place : (limits : Allowance) (bytes : List ℕ) (gs hs : List Tree) (e f : Sums)
    (st su : Stack) (held kept : List ℕ) → Stands limits bytes gs e st held
    → Stands limits bytes hs f su kept → IsSamePlace gs hs e f st su held kept
one_place limits bytes gs hs e f st su held kept s t =
    let at : s.front ++ (s.middle ++ held) ≡ t.front ++ (t.middle ++ kept) = sym s.whole ∙ t.whole in
    let cut = streams_same limits s.front t.front (s.middle ++ held) (t.middle ++ kept) gs hs s.blobs t.blobs
    (λ g front x. none_whole limits bytes gs e st held s g front x)
    (λ g front x. none_whole limits bytes hs f su kept t g front x) at in
    let same = same_place limits bytes bytes gs hs e f st su held kept s t
    (peel s.front t.front (s.middle ++ held) (t.middle ++ kept) cut.1 at) in
    record { geometries = cut.0; sums = same.sums; stack = same.stack; bytes = same.bytes }

-- before the first item no byte is held
none_held : (limits : Allowance) (bytes : List ℕ) (gs : List Tree) (e : Sums) (st : Stack)
    (held : List ℕ) (s : Stands limits bytes gs e st held) → s.middle ≡ [] → held ≡ []
none_held limits bytes gs e st held s none = go s.number
  where
    at_start : s.reached.items ≡ []
    at_start = no_items s.reached.items st s.reached.ran.runs (s.reached.spelled ∙ none)

    role : s.role ≡ Header
    role = some_role Header s.role (sym (role_first ∙ refl) ∙ role_behind limits s.middle e st s.role s.reached s.wants)
      where
        first : started ≡ st
        first = subst (λ l. Runs nothing started l st) at_start s.reached.ran.runs

        role_first : role_at (sums_after nothing s.reached.items) st ≡ Some Header
        role_first = ap (λ l. role_at (sums_after nothing l) st) at_start ∙ ap (λ y. role_at nothing y) (sym first)

    go : (held ≡ []) ⊎ IsNumber s.role → held ≡ []
    go (inl h) = h
    go (inr n) = let z : IsNumber Header = subst (λ r. IsNumber r) role n in absurd z

-- at a blob's end the bytes are a stream
pub stands_whole : (limits : Allowance) (bytes : List ℕ) (gs : List Tree) (e : Sums) (st : Stack)
    (held : List ℕ) → Stands limits bytes gs e st held → e.bytes ≡ 0 → Stream limits bytes gs
stands_whole limits bytes gs e st held s none =
    let middle : s.middle ≡ [] = nil s.middle (reached_bytes limits s.middle e st s.reached ∙ none) in
    let here : bytes ≡ s.front = s.whole ∙ (ap (λ l. s.front ++ (l ++ held)) middle
    ∙ (ap (λ l. s.front ++ l) (none_held limits bytes gs e st held s middle)
    ∙ append-nil s.front)) in
    subst (λ l. Stream limits l gs) (sym here) s.blobs
  where
    nil : (l : List ℕ) → length l ≡ 0 → l ≡ []
    nil [] h = refl
    nil (x ∷ l) h = absurd (omega (arith, h))

-- if no blob ends there, the bytes are truncated
pub stands_cut : (limits : Allowance) (bytes : List ℕ) (gs : List Tree) (e : Sums) (st : Stack)
    (held : List ℕ) (s : Stands limits bytes gs e st held) → 0 < e.bytes
    → StreamFault limits bytes gs (length s.front + e.bytes) Truncated
stands_cut limits bytes gs e st held s some =
    record {
      front = s.front;
      rest = s.middle ++ held;
      within = e.bytes;
      whole = s.whole;
      blobs = s.blobs;
      first = go s.number;
      place = refl;
    }
  where
    not_nil : s.middle ≢ []
    not_nil = λ none. let n : length s.middle ≡ 0 = ap length none in
        omega (arith, n, some, reached_bytes limits s.middle e st s.reached)

    go : (held ≡ []) ⊎ IsNumber s.role → FirstFault limits (s.middle ++ held) e.bytes Truncated
    go (inl none) = subst (λ l. FirstFault limits l e.bytes Truncated) (sym (append-nil s.middle)
        ∙ ap (λ l. s.middle ++ l) (sym none)) (reached_end limits s.middle e st s.role s.reached
        s.wants not_nil s.spelled)
    go (inr n) = reached_cut limits s.middle e st held s.role s.reached s.wants n (s.few, s.go_on)

-- after some blobs, a reader is before the first item
pub stands_start : (limits : Allowance) (bytes : List ℕ) (gs : List Tree) → IsAllowance limits
    → Stream limits bytes gs → Stands limits bytes gs nothing started []
stands_start limits bytes gs allowed s = record {
  front = bytes;
  middle = [];
  whole = sym (append-nil bytes);
  blobs = s;
  reached = reached_nothing limits allowed;
  role = Header;
  wants = refl;
  spelled = λ d came e. cc;
  go_on = tt;
  few = omega arith;
  number = inl refl;
}

-- ==== One more byte ends an item, and with it some geometries.

-- a list is empty, or has a last item
data Ended (xs : List ℕ) : Type 0 where
  is_empty : xs ≡ [] → Ended xs
  has_last : (ys : List ℕ) (y : ℕ) → xs ≡ ys ++ y ∷ [] → Ended xs

ended : (xs : List ℕ) → Ended xs
ended [] = is_empty refl
ended (x ∷ xs) = more (ended xs)
  where
    more : Ended xs → Ended (x ∷ xs)
    more (is_empty e) = has_last [] x (ap (λ l. x ∷ l) e)
    more (has_last ys y e) = has_last (x ∷ ys) y (ap (λ l. x ∷ l) e)

-- lists that are equal with one more item are equal without it
before_last : (xs ys : List ℕ) (a b : ℕ) → xs ++ a ∷ [] ≡ ys ++ b ∷ [] → xs ≡ ys
before_last [] [] a b e = refl
before_last [] (y ∷ ys) a b e = absurd (let z : length ((a ∷ [])) ≡ length (y ∷ (ys ++ b ∷ [])) =
    ap length e in omega (arith, z, length-append ys (b ∷ [])))
before_last (x ∷ xs) [] a b e = absurd (let z : length (x ∷ (xs ++ a ∷ [])) ≡ length (b ∷ []) =
    ap length e in omega (arith, z, length-append xs (a ∷ [])))
before_last (x ∷ xs) (y ∷ ys) a b e =
    let h : x ≡ y = cc in
    let t : xs ++ a ∷ [] ≡ ys ++ b ∷ [] = cc in
    ap (λ k. k ∷ xs) h ∙ ap (λ l. y ∷ l) (before_last xs ys a b t)

-- the byte ends an item, and with it some geometries
pub record Taken (is js : List Item) (held : List ℕ) (byte : ℕ) : Type 0 where
  pub next : Item
  pub ends : List Item
  pub whole : js ≡ is ++ next ∷ ends
  pub are_ends : AreEnds ends
  pub bytes : next.bytes ≡ held ++ byte ∷ []

module _ (limits : Allowance) (bytes : List ℕ) (gs : List Tree) (e : Sums) (st : Stack)
    (held : List ℕ) (s : Stands limits bytes gs e st held) where
  -- the byte took an item
  pub taken : (js : List Item) (su : Stack) (byte : ℕ) (kept : List ℕ) → Runs nothing started js su
      → join js ++ kept ≡ (s.middle ++ held) ++ byte ∷ [] → Beyond js s.reached.items
      → Taken s.reached.items js held byte
  taken js su byte kept r at b = go (ended (join b.more ++ kept))
    where
      t : Runs (sums_after nothing s.reached.items) st (b.next ∷ b.more) su
      t = run_on s.reached.items (b.next ∷ b.more) st su (subst (λ l. Runs nothing started l su) b.whole r)
          s.reached.ran.runs

      here : b.next.bytes ++ (join b.more ++ kept) ≡ held ++ byte ∷ []
      here = left_cancel s.middle (b.next.bytes ++ (join b.more ++ kept)) (held ++ byte ∷ [])
          (ap (λ l. l ++ (b.next.bytes ++ (join b.more ++ kept))) (sym s.reached.spelled)
          ∙ (ap (λ l. join s.reached.items ++ l) (sym (append_assoc b.next.bytes (join b.more) kept))
          ∙ (sym (append_assoc (join s.reached.items) (b.next.bytes ++ join b.more) kept)
          ∙ (ap (λ l. l ++ kept) (sym (join-beyond s.reached.items b.more b.next) ∙ ap join (sym b.whole))
          ∙ (at ∙ append_assoc s.middle held (byte ∷ []))))))

      go : Ended (join b.more ++ kept) → Taken s.reached.items js held byte
      go (is_empty n) = record {
        next = b.next;
        ends = b.more;
        whole = b.whole;
        are_ends = ends_only b.more _ _ su t.2 (none_front (join b.more) kept n);
        bytes = sym (append-nil b.next.bytes) ∙ (ap (λ l. b.next.bytes ++ l) (sym n) ∙ here);
      }
      go (has_last ys y n) =
          let whole : b.next.bytes ++ ys ≡ held = before_last (b.next.bytes ++ ys) held y byte
          (append_assoc b.next.bytes ys (y ∷ []) ∙ (ap (λ l. b.next.bytes ++ l) (sym n) ∙ here))
          in
          let spelled : join (s.reached.items ++ b.next ∷ []) ++ ys ≡ s.middle ++ held =
          ap (λ l. l ++ ys) (join-beyond s.reached.items [] b.next)
          ∙ (append_assoc (join s.reached.items) (b.next.bytes ++ []) ys
          ∙ (ap (λ l. l ++ ((b.next.bytes ++ []) ++ ys)) s.reached.spelled
          ∙ ap (λ l. s.middle ++ l) (ap (λ l. l ++ ys) (append-nil b.next.bytes) ∙ whole))) in
          absurd (none_longer limits bytes gs e st held s (s.reached.items ++ b.next ∷ [])
          (stack_after (sums_after nothing s.reached.items) b.next st) ys
          (Runs-append s.reached.items nothing started st (b.next ∷ [])
          (stack_after (sums_after nothing s.reached.items) b.next st) s.reached.ran.runs
          (t.0, t.1, refl)) spelled
          (record { next = b.next; more = []; whole = refl }))

  -- the role of the item taken
  pub taken_role : (js : List Item) (su : Stack) (byte : ℕ) → Runs nothing started js su
      → (t : Taken s.reached.items js held byte) → role_at e st ≡ Some t.next.role × IsItem t.next
  taken_role js su byte r t =
      let p = run_on s.reached.items (t.next ∷ t.ends) st su (subst (λ l. Runs nothing started l su) t.whole r)
      s.reached.ran.runs in
      (subst (λ x. role_at x st ≡ Some t.next.role) s.reached.sums p.0, p.1)

-- ==== What one more byte adds to the notes of a reader.

no_held : (held : List ℕ) (r : Role) → (IsNumber r → ⊥) → (held ≡ []) ⊎ IsNumber r → held ≡ []
no_held held r n (inl e) = e
no_held held r n (inr h) = absurd (n h)

head_is : (n b : ℕ) (held : List ℕ) (bytes : List ℕ) → bytes ≡ n ∷ [] → bytes ≡ held ++ b ∷ [] → held ≡ [] → n ≡ b
head_is n b held bytes e f none = let z : n ∷ [] ≡ b ∷ [] = sym e ∙ (f ∙ ap (λ l. l ++ b ∷ []) none) in cc

-- the note of an item is added by a header's byte at once
item_noted : (start : ℕ) (e : Sums) (fs : List Frame) (p : Phase) (i : Item) (byte : ℕ)
    (held : List ℕ) (w : Notes) → IsCalm p → role_at e (fs, p) ≡ Some i.role → IsItem i
    → i.bytes ≡ held ++ byte ∷ []
    → (held ≡ []) ⊎ IsNumber i.role → ((d : Option ℕ) (came : ℕ) → i.role ≡ End d came → ⊥)
    → noted_by start e i.role i.number w ≡ note_byte p (start + e.bytes) e.points byte w
item_noted start e fs AtHeader i byte held w calm r item says number some =
    let is : i.role ≡ Header = some_role Header i.role r in
    let sp : Spells Header i.number i.bytes = subst (λ x. Spells x i.number i.bytes) is item in
    let none : held ≡ [] = no_held held Header (λ h. h) (subst (λ x. (held ≡ []) ⊎ IsNumber x) is number) in
    let same = head_is i.number byte held i.bytes sp.3 says none in
    λ t. noted_by start e (is t) (same t) w
item_noted start e fs (AtMetadata k q) i byte held w calm r item says number some =
    let is : i.role ≡ Metadata (kind_number k) = some_role (Metadata (kind_number k)) i.role r in
    let sp : Spells (Metadata (kind_number k)) i.number i.bytes = subst (λ x. Spells x i.number i.bytes) is item in
    let none : held ≡ [] = no_held held (Metadata (kind_number k)) (λ h. h)
    (subst (λ x. (held ≡ []) ⊎ IsNumber x) is number) in
    let same = head_is i.number byte held i.bytes sp.1 says none in
    λ t. noted_by start e (is t) (same t) w
item_noted start e fs (AtOption k h o rs) i byte held w calm r item says number some = quiet start e
    i.role i.number w (subst IsQuiet (sym (some_role o i.role r)) calm)
item_noted start e fs (AtCount m h) i byte held w calm r item says number some = quiet start e
    i.role i.number w (subst IsQuiet (sym (some_role (Count (first_count m (length fs))) i.role r))
    tt)
item_noted start e fs (AtId m h members ids left) i byte held w calm r item says number some =
    quiet start e i.role i.number w (subst IsQuiet (sym (some_role Id i.role r)) tt)
item_noted start e fs (AtBody h f ids b) i byte held w calm r item says number some = quiet start e
    i.role i.number w (body_each IsQuiet tt tt (λ d. tt) b i.role r)
item_noted start e fs (AtEnd h g) i byte held w calm r item says number some = absurd
    (some h.size (e.bytes - h.from) (some_role (End h.size (e.bytes - h.from)) i.role r))
item_noted start e fs (Finished g) i byte held w calm r item says number some = absurd cc

byte_quiet : (level bytes : ℕ) (p : Phase) (r : Role) (offset points byte : ℕ) (w : Notes)
    → phase_role level bytes p ≡ Some r → IsNumber r → note_byte p offset points byte w ≡ w
byte_quiet level bytes AtHeader r offset points byte w e h = absurd (subst IsNumber (some_role Header r e) h)
byte_quiet level bytes (AtMetadata k q) r offset points byte w e h = absurd
    (subst IsNumber (some_role (Metadata (kind_number k)) r e) h)
byte_quiet level bytes _ r offset points byte w e n = refl

module _ (limits : Allowance) (bytes : List ℕ) (e : Sums) (st : Stack) (held : List ℕ)
    (s : Stands limits bytes [] e st held) where
  at_middle : s.middle ++ held ≡ bytes
  at_middle = sym (s.whole ∙ ap (λ l. l ++ (s.middle ++ held)) s.blobs)

  left : (byte : ℕ) → join s.reached.items ++ (held ++ byte ∷ []) ≡ (s.middle ++ held) ++ byte ∷ []
  left byte = ap (λ l. l ++ (held ++ byte ∷ [])) s.reached.spelled ∙ sym (append_assoc s.middle held (byte ∷ []))

  -- the notes after an item and the ends after it
  after_byte : (start : ℕ) (js : List Item) (su : Stack) (byte : ℕ) → Runs nothing started js su
      → (t : Taken s.reached.items js held byte) → IsCalm st.1 → (offset points : ℕ)
      → start + (sums_after nothing js).bytes ≡ offset → (sums_after nothing js).points ≡ points
      → noted start nothing no_notes js ≡ note_ends_to (length (noted start nothing no_notes js).begun) offset points
      (note_byte st.1 (start + e.bytes) e.points byte (notes_of start s))
  after_byte start js su byte r t calm offset points at many =
      a ∙ (ends_to (length t.ends) offset points V
      ∙ ap (λ (w : Notes). note_ends_to (length w.begun) offset points V) (sym a))
    where
      role : role_at e st ≡ Some t.next.role × IsItem t.next
      role = taken_role limits bytes [] e st held s js su byte r t

      is : t.next.role ≡ s.role
      is = some_role s.role t.next.role (sym s.wants ∙ role.0)

      number : (held ≡ []) ⊎ IsNumber t.next.role
      number = subst (λ x. (held ≡ []) ⊎ IsNumber x) (sym is) s.number

      some : (d : Option ℕ) (came : ℕ) → t.next.role ≡ End d came → ⊥
      some = λ d came z. s.spelled d came (sym is ∙ z)

      sums : sums_after nothing js ≡ sums_after (added e t.next) t.ends
      sums = ap (λ l. sums_after nothing l) t.whole
          ∙ (sums_after-append s.reached.items (t.next ∷ t.ends) nothing
          ∙ ap (λ x. sums_after x (t.next ∷ t.ends)) s.reached.sums)

      behind : Same (sums_after nothing js) (added e t.next)
      behind = let b = ends_add t.ends (added e t.next) t.are_ends in
          (ap (λ x. x.bytes) sums ∙ b.0, ap (λ x. x.points) sums ∙ b.1)

      V : Notes
      V = note_byte st.1 (start + e.bytes) e.points byte (notes_of start s)

      a : noted start nothing no_notes js ≡ note_ends (length t.ends) offset points V
      a = ap (λ l. noted start nothing no_notes l) t.whole
          ∙ (noted-append start s.reached.items (t.next ∷ t.ends) nothing no_notes
          ∙ (ap (λ x. noted start x (notes_of start s) (t.next ∷ t.ends)) s.reached.sums
          ∙ (ap (λ v. noted start (added e t.next) v t.ends)
          (item_noted start e st.0 st.1 t.next byte held (notes_of start s) calm role.0 role.1 t.bytes
          number some)
          ∙ ends_noted start t.ends (added e t.next) offset points V t.are_ends
          (ap (λ n. start + n) (sym behind.0) ∙ at) (sym behind.1 ∙ many))))

  -- one more byte with which the blob goes on
  pub goes_on : (start byte : ℕ) (f : Sums) (su : Stack) (kept : List ℕ)
      (t : Stands limits (bytes ++ byte ∷ []) [] f su kept) → IsCalm st.1
      → notes_of start t ≡ note_ends_to (frame_count su) (start + f.bytes) f.points
      (note_byte st.1 (start + e.bytes) e.points byte (notes_of start s))
  goes_on start byte f su kept t calm = go (two_fronts s.reached.items t.reached.items nothing
      started st su (held ++ byte ∷ []) kept s.reached.ran.runs t.reached.ran.runs
      (left byte ∙ (at ∙ sym right)))
    where
      right : join t.reached.items ++ kept ≡ t.middle ++ kept
      right = ap (λ l. l ++ kept) t.reached.spelled

      at : (s.middle ++ held) ++ byte ∷ [] ≡ t.middle ++ kept
      at = ap (λ l. l ++ byte ∷ []) at_middle ∙ (t.whole ∙ ap (λ l. l ++ (t.middle ++ kept)) t.blobs)

      V : Notes
      V = note_byte st.1 (start + e.bytes) e.points byte (notes_of start s)

      counts : length (notes_of start t).begun ≡ frame_count su
      counts = all_open start t.reached.items nothing no_notes ∙ sym (reached_frames limits t.middle f su t.reached)

      grew : (x : Taken s.reached.items t.reached.items held byte)
          → notes_of start t ≡ note_ends_to (frame_count su) (start + f.bytes) f.points V
      grew x = after_byte start t.reached.items su byte t.reached.ran.runs x calm (start + f.bytes) f.points
          (ap (λ z. start + z.bytes) t.reached.sums) (ap (λ z. z.points) t.reached.sums)
          ∙ ap (λ n. note_ends_to n (start + f.bytes) f.points V) counts

      -- a byte of a number that is not its last adds no note
      stayed : s.reached.items ≡ t.reached.items → notes_of start t ≡ note_ends_to (frame_count su)
          (start + f.bytes) f.points V
      stayed alike = sym (ap (λ v. note_ends_to (frame_count su) (start + f.bytes) f.points v)
          (quiet_one ∙ notes) ∙ ap (λ n. note_ends n (start + f.bytes) f.points (notes_of start t))
          (let z : length (notes_of start t).begun - frame_count su ≡ 0 = omega (arith, counts) in
          z))
        where
          notes : notes_of start s ≡ notes_of start t
          notes = ap (λ l. noted start nothing no_notes l) alike

          stack : st ≡ su
          stack = runs_same t.reached.items nothing started st su
              (subst (λ l. Runs nothing started l st) alike s.reached.ran.runs) t.reached.ran.runs

          sums : e ≡ f
          sums = sym s.reached.sums ∙ (ap (λ l. sums_after nothing l) alike ∙ t.reached.sums)

          role : role_at e st ≡ Some t.role
          role = ap (λ x. role_at x st) sums ∙ (ap (λ x. role_at f x) stack ∙ t.wants)

          held_is : held ++ byte ∷ [] ≡ kept
          held_is = peel (join s.reached.items) (join t.reached.items) (held ++ byte ∷ []) kept
              (ap join alike) (left byte ∙ (at ∙ sym right))

          number : (kept ≡ []) ⊎ IsNumber t.role → IsNumber t.role
          number (inl z) = absurd (let y : length (held ++ byte ∷ []) ≡ 0 = ap length
              (held_is ∙ z) in omega (arith, y, length-append held (byte ∷ [])))
          number (inr z) = z

          quiet_one : V ≡ notes_of start s
          quiet_one = byte_quiet (length st.0) e.bytes st.1 t.role (start + e.bytes) e.points byte
              (notes_of start s) role (number t.number)

      go : Compared s.reached.items t.reached.items
          → notes_of start t ≡ note_ends_to (frame_count su) (start + f.bytes) f.points V
      go (longer n) = absurd (none_longer limits (bytes ++ byte ∷ []) [] f su kept t s.reached.items
          st (held ++ byte ∷ []) s.reached.ran.runs (left byte ∙ at) n)
      go (shorter n) = grew (taken limits bytes [] e st held s t.reached.items su byte kept
          t.reached.ran.runs (right ∙ sym at) n)
      go (same z) = stayed z

  -- the last byte of a blob
  pub ends_blob : (start byte : ℕ) (g : Tree) (b : Blob limits (bytes ++ byte ∷ []) g) → IsCalm st.1
      → spans_of_blob start b ≡ (note_ends_to 0 (start + length (bytes ++ byte ∷ []))
      (length (flat g)) (note_byte st.1 (start + e.bytes) e.points byte (notes_of start s))).spans
  ends_blob start byte g b calm = go (two_fronts s.reached.items b.items nothing started st
      ([], Finished g) (held ++ byte ∷ []) [] s.reached.ran.runs whole (left byte ∙ sym right))
    where
      whole : Runs nothing started b.items ([], Finished g)
      whole = blob_runs limits (bytes ++ byte ∷ []) g b

      right : join b.items ++ [] ≡ (s.middle ++ held) ++ byte ∷ []
      right = append-nil (join b.items) ∙ (b.spelled ∙ ap (λ l. l ++ byte ∷ []) (sym at_middle))

      V : Notes
      V = note_byte st.1 (start + e.bytes) e.points byte (notes_of start s)

      E : Sums
      E = sums_after nothing b.items

      size : start + E.bytes ≡ start + length (bytes ++ byte ∷ [])
      size = let z : E.bytes ≡ 0 + length (join b.items) = bytes_after b.items nothing in
          omega (arith, z, ap length b.spelled)

      many : E.points ≡ length (flat g)
      many = let z : E.points ≡ 0 + total points_by b.items = points_total b.items nothing in
          omega (arith, z, (tree_total g 0 b.items b.valid.tree b.are_items).1)

      noted_all : noted start nothing no_notes b.items ≡ record { spans = spans_of_blob start b; begun = [] }
      noted_all = blob_noted limits (bytes ++ byte ∷ []) g start b

      grew : (x : Taken s.reached.items b.items held byte)
          → spans_of_blob start b ≡ (note_ends_to 0 (start + length (bytes ++ byte ∷ []))
          (length (flat g)) V).spans
      grew x = ap (λ w. w.spans) (sym noted_all ∙ (after_byte start b.items ([], Finished g) byte whole x calm
          (start + length (bytes ++ byte ∷ [])) (length (flat g)) size many
          ∙ ap (λ (w : Notes). note_ends_to (length w.begun) (start + length (bytes ++ byte ∷ [])) (length (flat g)) V)
          noted_all))

      go : Compared s.reached.items b.items → spans_of_blob start b
          ≡ (note_ends_to 0 (start + length (bytes ++ byte ∷ [])) (length (flat g)) V).spans
      go (longer n) = absurd (none_beyond b.items s.reached.items g st whole s.reached.ran.runs n)
      go (shorter n) = grew (taken limits bytes [] e st held s b.items ([], Finished g) byte [] whole right n)
      go (same z) = let y : None ≡ Some s.role = unfinished limits bytes [] e st held s b.items g whole (sym z) in
          absurd cc
