-- The answers of a reader and of a session.
use Rattle.std.proofs.Common.{◌≡◌, ℕ, ◌<◌, ◌++◌, List, [], ◌∷◌, length, sym, ◌∙◌, ap, arith, length-append, refl}
use Rattle.std.proofs.Common.{subst, Bool, Option, Some, None, Result, Ok, Err, true, false, ◌+◌, ◌≤◌, is_err, ◌⊎◌}
use Rattle.std.proofs.Common.{inl, inr, ◌-◌, take, append_assoc, append-nil}
use Rattle.std.proofs.KnownBytes.{Consumes-whole}
use Rattle.std.proofs.Math.Seq.{take-append_seam, take-length}
use Rattle.std.proofs.lemmas.List.{nil_from_length, append_cancel_left, length-take-le}
use Rattle.std.proofs.lemmas.Option.{IfSome_then}
use Rattle.std.specs.Prelude.{IfSome, if◌then◌else◌}
use Rattle.std.specs.Io.KnownBytes.{Consumes, IsAtEnd}
use Rattle.std.specs.declared.io.traits.Read.{Ghosts}
use Rattle.std.proofs.Math.Logic.{∥∥₁_elim}
use Rattle.std.proofs.Props.{props}
use Rattle.twkb_io.specs.declared.input.Input.{Input}
use Rattle.twkb_io.specs.declared.input.InFault.{InFault}
use Rattle.twkb_io.specs.declared.input.InFault.TheVariants.{Read, TooLong, Spent}
use Rattle.twkb_io.specs.Inputs.{given, rest_of}
use Rattle.twkb_io.specs.declared.TheConstants.{MAX_BYTES}
use Rattle.twkb_tree.specs.Tree.{Tree, simple, collection, IsTree}
use Rattle.twkb_tree.specs.Rows.{Row, rows}
use Rattle.twkb_tree.specs.Limits.{Allowance, IsValid, largest_limits}
use Rattle.twkb_grammar.specs.Items.{Stream, Blob}
use Rattle.twkb_grammar.specs.Noting.{Notes, no_notes}
use Rattle.twkb_grammar.specs.declared.span.Span.{Span}
use Rattle.twkb_grammar.proofs.Streams.{blob_long, behind_stream, stream-append}
use Rattle.twkb_body.specs.HeaderParts.{IsJudged, PartIn}
use Rattle.twkb_engine.specs.Standing.{StandsAt, count_of, held_in, notes_at, IsAlive}
use Rattle.twkb_engine.specs.declared.engine.Engine.{Engine}
use Rattle.twkb_engine.specs.State.{allowance_of}
use Rattle.twkb_engine.specs.Taking.{BeginsAt}
use Rattle.twkb_engine.proofs.Answering.{count_is}
use Rattle.twkb_engine.proofs.Steps.{blob_judged, noted_none, begins, stands_begun}
use Rattle.twkb_blob.specs.Readers.{AreCutOff, HasNone, IsNextFlat, Left, Makes, PartAhead, StopsWithin, IsAtBlob}
use Rattle.twkb_blob.specs.Readers.{reader_input, reader_limits, IfGoingOn, ReadsNext, ReadsRows, has_ended, is_spent}
use Rattle.twkb_blob.specs.Located.{IsInto, IsSpanned, ReadsInto, ReadsWith, ReadsSpans}
use Rattle.twkb_blob.specs.Faults.{Reads, ReadsBlob, EndsAt, Feeds}
use Rattle.twkb_blob.specs.declared.fault.BlobFault.{BlobFault}
use Rattle.twkb_blob.specs.declared.fault.BlobFault.TheVariants as fault
use Rattle.twkb_blob.specs.declared.reader.Reader.{Reader}
use Rattle.twkb_grammar.specs.Fault.{FirstFault, Reason, StreamFault}
use Rattle.twkb_blob.specs.Sessions.{Stands, PartAt, FedSession, FedFlat, AreBegun, Finished, begun_rows}
use Rattle.twkb_blob.specs.Sessions.{session_limits, session_rows}
use Rattle.twkb_blob.specs.declared.session.Session.{Session}

-- ==== The rows of a geometry, and the tree that is made of them.

-- the law that rows tell one tree
abbrev pub TreeLaw : Type 0
TreeLaw = (g h : Tree) → IsTree g → IsTree h → rows 0 g ≡ rows 0 h → g ≡ h

-- a geometry has a row
pub has_row : (g : Tree) → 0 < length (rows 0 g)
has_row (simple p s) = omega arith
has_row (collection p ids gs) = omega arith

-- and so have these rows, which are not none
pub some_row : (rs : List Row) (g : Tree) → rs ≡ rows 0 g → 0 < length rs
some_row rs g is = omega (arith, ap length is, has_row g)

pub not_none : (rs : List Row) (g : Tree) → rs ≡ rows 0 g → rs ≡ [] → ⊥
not_none rs g is none = absurd (omega (arith, ap length none, some_row rs g is))

-- the tree that is made of the rows is the geometry
pub tree_made : TreeLaw → (rs : List Row) (g h : Tree) → IsTree g → rs ≡ rows 0 g → rows 0 h ≡ rs
    → IsValid largest_limits h → g ≡ h
tree_made law rs g h tree is made valid = law g h tree valid.tree (sym (made ∙ is))

-- the last geometry of a stream is one
pub last_tree : (limits : Allowance) (bytes : List ℕ) (gs : List Tree) (g : Tree)
    → Stream limits bytes (gs ++ g ∷ []) → IsTree g
last_tree limits bytes [] g (front, rest, whole, blob, more) = blob.valid.tree
last_tree limits bytes (f ∷ fs) g (front, rest, whole, blob, more) = last_tree limits rest fs g more

-- ==== The answers of a reader, of what was read into a form.

-- if no byte came, nothing was noted
none_noted : (rs : List Row) (d : Engine) (s : StandsAt [] rs d) → notes_at s ≡ no_notes
none_noted rs d s =
    let none : 0 ≡ count_of d = count_is [] rs d s in
    noted_none [] rs d s (omega (arith, none)) (nil_from_length (held_in d) (omega (arith, none)))

judge_end : (known : Option (List ℕ)) → IfSome known (λ rest. rest ≡ []) → IsAtEnd known
judge_end None none = tt
judge_end (Some rest) none = none

-- a blob that left is a part of what was known
blob_known : {limits : Allowance} {bs : List ℕ} {g : Tree} (a b : Option (List ℕ)) → Consumes a b bs
    → Blob limits bs g → IfSome a (λ rest. PartIn limits [] rest)
blob_known None b loses h = tt
blob_known (Some xs) None loses h = absurd loses
blob_known {limits} {bs} {g} (Some xs) (Some ys) loses h =
    subst (PartIn limits []) (sym loses) (record {
      used = length bs;
      some = omega (arith, blob_long limits bs g h);
      within = omega (arith, length-append bs ys);
      part = subst (IsJudged limits) (sym (take-append_seam bs ys)) (blob_judged limits bs g h);
    })

module _ {R : Type 0} {read : Ghosts R} (limits : Allowance) (a c : Input R read) where
  stops : (why : InFault) (bytes : List ℕ) → Left a c bytes → AreCutOff limits bytes
      → HasNone why a c → StopsWithin limits why a c
  stops Read bytes left cut none = record { bytes = bytes; left = left; cut_off = cut; none_held = none }
  stops TooLong bytes left cut none = record { bytes = bytes; left = left; cut_off = cut; full = none }
  stops Spent bytes left cut none = none

  -- a blob that was read from its first byte on; without a geometry the rows do not matter
  answered : {S : Type 0} (holds : S → Notes → Type 0) (told : Type 0) (e : Engine)
      (rs qs : List Row) (v : S) (answer : Result Bool BlobFault) → told
      → (answer ≡ Ok true → qs ≡ rs)
      → ReadsBlob holds told limits (given a) [] a c answer e rs v → IsInto holds limits a c answer qs v
  answered holds told e rs qs v (Ok true) known kept h = (h.0, h.1, h.2 known, kept refl ∙ h.3)
  answered holds told e rs qs v (Ok false) known kept h = (
    judge_end (rest_of a) (Consumes-whole (rest_of a) (rest_of c) h.0 (λ rest. rest ≡ [])
        h.1.consumed h.2 h.3),
    subst (Left a c) h.3 h.1,
  )
  answered holds told e rs qs v (Err fault.Memory) known kept h = h
  answered holds told e rs qs v (Err (fault.At offset reason)) known kept h = IfSome_then
      (rest_of a) h (λ rest f. record { within = f.0; first = f.1; place = f.2 })
  answered holds told e rs qs v (Err (fault.Device why)) known kept h = stops why h.0 h.1 h.2 h.3
  answered holds told e rs qs v (Err fault.Spent) known kept h = absurd h

module _ {R : Type 0} {read : Ghosts R} {limits : Allowance} {a c : Input R read} where
  module _ {S : Type 0} {holds : S → Notes → Type 0} {rs : List Row} {v : S} where
    pub read_next : {d e : Engine} {none held qs : List Row} {told : S} (answer : Result Bool BlobFault)
        → d.limits ≡ limits → d.start ≡ given a → StandsAt [] none d → held ≡ none
        → holds told no_notes → (answer ≡ Ok true → qs ≡ rs)
        → Reads holds d held told a c answer e rs v → ReadsInto holds limits a c answer qs v
    read_next {d} {e} {none} {held} {qs} {told} answer own begins stood same noted kept run =
        let s : StandsAt [] held d = subst (λ l. StandsAt [] l d) (sym same) stood in
        let known : Type 0 = holds told (notes_at s) in
        let here = subst (λ n. ReadsBlob holds known d.limits n [] a c answer e rs v) begins (run.blob [] s) in
        record {
          is = answered limits a c holds known e rs qs v answer
              (subst (holds told) (sym (none_noted held d s)) noted) kept
              (subst (λ l. ReadsBlob holds known l (given a) [] a c answer e rs v) own here);
        }

    -- its rows
    pub flat_next : (answer : Result Bool BlobFault) → ReadsInto holds limits a c answer rs v
        → IsNextFlat limits a c answer rs
    flat_next (Ok true) h = (h.is.0, h.is.1, h.is.3)
    flat_next (Err fault.Memory) h = tt
    flat_next _ h = h.is

    pub same_answer : {answer other : Result Bool BlobFault} → answer ≡ other
        → ReadsInto holds limits a c answer rs v → ReadsInto holds limits a c other rs v
    same_answer is h = subst (λ r. ReadsInto holds limits a c r rs v) is h

    pub some_rows : {answer : Result Bool BlobFault} → answer ≡ Ok true
        → ReadsInto holds limits a c answer rs v → 0 < length rs
    some_rows found h = let at = same_answer found h in some_row rs at.is.0 at.is.3

    -- there is no memory for a part that is ahead
    pub part_ahead : {answer : Result Bool BlobFault} → answer ≡ Err fault.Memory
        → ReadsInto holds limits a c answer rs v → PartAhead limits [] a
    part_ahead missing h = (same_answer missing h).is

    -- it is not refused for what was before
    pub not_spent : {answer : Result Bool BlobFault} → answer ≡ Err fault.Spent
        → ReadsInto holds limits a c answer rs v → ⊥
    not_spent spent h = (same_answer spent h).is

  -- its rows and its spans
  pub spanned_next : {rs : List Row} {v : Notes} {spans : List Span}
      (answer : Result Bool BlobFault) → ReadsInto (λ (o w : Notes). o ≡ w) limits a c answer rs v
      → (answer ≡ Ok true → spans ≡ v.spans) → IsSpanned limits a c answer rs spans
  spanned_next (Ok true) h kept = (
    h.is.0,
    record {
      made = h.is.1;
      told = kept refl
          ∙ (ap (λ (o : Notes). o.spans) h.is.2.1 ∙ h.is.2.2);
    },
    h.is.3,
  )
  spanned_next (Err fault.Memory) h kept = tt
  spanned_next _ h kept = h.is

  -- there is no memory for its tree
  pub made_ahead : {g : Tree} → Makes limits [] a c g → PartAhead limits [] a
  made_ahead {g} made = blob_known (rest_of a) (rest_of c) made.left.consumed made.blob

-- ==== An engine that keeps pace with a reader.

-- an engine that took no byte is where a blob begins
begun : (d : Engine) → IsAlive [] d → count_of d ≡ 0 → StandsAt [] [] d
begun d alive none =
    let alone : held_in d ≡ [] = nil_from_length (held_in d) (omega (arith, none)) in
    let start : BeginsAt d.start d = ∥∥₁_elim alive (Prim.hlevel props)
    (λ s. begins s.0 [] d s.1 (omega (arith, none)) alone) in
    stands_begun d.start d start alone

-- one that is made for the next blob keeps pace
pub new_abreast : {R : Type 0} {read : Ghosts R} {limits : Allowance} {a : Input R read} {d : Engine}
    → StandsAt [] [] d → d.start ≡ given a → allowance_of d ≡ limits → IsAtBlob limits a d
new_abreast {d = d} stands start same = record {
  alive = ∣ ([], stands) ∣₁;
  none = sym (count_is [] [] d stands);
  start = start;
  same_limits = same;
}

module _ {R : Type 0} {read : Ghosts R} {limits : Allowance} {a c : Input R read} {d e : Engine}
    (k : IsAtBlob limits a d) {S : Type 0} {holds : S → Notes → Type 0} {none more : List Row} {w v : S}
    (cleared : none ≡ []) where
  -- a blob that is read with it, into a form that was cleared, is read from its first byte on
  pub read_abreast : {qs : List Row} (answer : Result Bool BlobFault) → holds w no_notes
      → (answer ≡ Ok true → qs ≡ more) → Reads holds d none w a c answer e more v
      → ReadsInto holds limits a c answer qs v
  read_abreast answer noted kept run = read_next answer k.same_limits k.start (begun d k.alive k.none) cleared
      noted kept run

  -- and the engine keeps pace
  pub still_abreast : {own : Allowance} → own ≡ limits → Reads holds d none w a c (Ok true) e more v → IsAtBlob own c e
  still_abreast same run =
      let (g, made, told, rows, stands, start) = run.blob []
      (subst (λ l. StandsAt [] l d) (sym cleared) (begun d k.alive k.none)) in
      new_abreast stands (omega (arith, start, made.left.counted, k.start)) (run.limits ∙ k.same_limits ∙ sym same)

-- it took no byte more than the input may give
pub few_taken : {R : Type 0} {read : Ghosts R} {limits : Allowance} {a : Input R read} {d : Engine}
    → IsAtBlob limits a d → d.start + count_of d ≤ MAX_BYTES
few_taken {a = a} k = let few = a.within in omega (arith, few, k.start, k.none)

-- after a blob was read, the engine is where the next one begins
pub past_blob : {R : Type 0} {read : Ghosts R} {old new : Reader R read} {S : Type 0} {holds : S → Notes → Type 0}
    {more : List Row} {v : S} {e : Engine} (answer : Result Bool BlobFault) → answer ≡ Ok true
    → ReadsWith holds old new answer more v e → IsAtBlob (reader_limits new) (reader_input new) e
past_blob answer found r = r.abreast (r.shared.stays ∙ ap is_err found)
    (r.shared.going_on (λ end. let both : Ok true ≡ Ok false = sym found ∙ end in cc))

-- ==== What follows from what every call of a reader says.

is_false : (b : Bool) → ¬ (b ≡ true) → b ≡ false
is_false true not = absurd (not refl)
is_false false not = refl

is_true : (b : Bool) → ¬ (b ≡ false) → b ≡ true
is_true true not = refl
is_true false not = absurd (not refl)

-- two facts that hold unless a third does
pub both : {A B C : Type 0} → A ⊎ B → A ⊎ C → A ⊎ (B × C)
both (inl a) other = inl a
both (inr b) (inl a) = inl a
both (inr b) (inr c) = inr (b, c)

-- what was read of its input
pub next_read : {R : Type 0} {read : Ghosts R} {old new : Reader R read} {S : Type 0}
    {holds : S → Notes → Type 0} {d e : Engine} {none more : List Row} {w v : S} (answer : Result Bool BlobFault)
    → Reads holds d none w (reader_input old) (reader_input new) answer e more v
    → reader_limits new ≡ reader_limits old → is_spent old ≡ false → has_ended old ≡ false
    → is_spent new ≡ is_err answer → (answer ≡ Ok false → has_ended new ≡ true)
    → (¬ (answer ≡ Ok false) → has_ended new ≡ false) → ReadsNext false old new answer
next_read answer run limits live going stays end on = record {
  same_tap = run.same_tap;
  limits = limits;
  failures = run.failures;
  spent = λ e. absurd (cc (e, live));
  stays = stays;
  unchanged = λ e. absurd (cc (e, live));
  end = end;
  going_on = on;
  for_good = λ e. absurd (cc (e, going));
}

module _ {R : Type 0} {read : Ghosts R} {old new : Reader R read} {answer : Result Bool BlobFault}
    (h : ReadsNext false old new answer) where
  -- what is neither the end nor `Spent` comes from a reader that answered neither an error nor the end
  pub going_on : {A : Type 0} → ¬ (answer ≡ Ok false) → ¬ (answer ≡ Err fault.Spent) → IfGoingOn old A → A
  going_on not_end unspent fact = fact (is_false (is_spent old) (λ e. unspent (h.spent e)))
      (is_false (has_ended old) (λ e. not_end (h.for_good e).0))

  -- and so does a geometry
  pub came : {A : Type 0} → answer ≡ Ok true → IfGoingOn old A → A
  came is = going_on (λ e. cc (e, is)) (λ e. cc (e, is))

  module _ {S : Type 0} {holds : S → Notes → Type 0} {rs : List Row} {v : S}
      (run : IfGoingOn old (ReadsInto holds (reader_limits old) (reader_input old) (reader_input new)
      answer rs v)) where
    -- there is no memory for a part that is ahead
    pub no_memory : answer ≡ Err fault.Memory → PartAhead (reader_limits old) [] (reader_input old)
    no_memory is = part_ahead is (going_on (λ e. cc (e, is)) (λ e. cc (e, is)) run)

    -- it is refused only for an error before
    pub was_spent : answer ≡ Err fault.Spent → is_spent old ≡ true
    was_spent is = is_true (is_spent old) (λ live. not_spent is (run live
        (is_false (has_ended old) (λ e. absurd (let end = (h.for_good e).0 in cc (end, is))))))

    -- a geometry has rows
    pub some_came : answer ≡ Ok true → 0 < length rs
    some_came is = some_rows is (came is run)

    -- rows were read
    pub rows_read : (answer ≡ Ok true) ⊎ (rs ≡ []) → ReadsRows old new answer rs
    rows_read cleared = record {
      shared = h;
      next = λ live going. flat_next answer (run live going);
      memory = no_memory;
      cleared = cleared;
      some = some_came;
      spent = (was_spent, h.spent);
    }

  -- rows and spans were read
  pub spans_read : {rs : List Row} {v : Notes} {spans : List Span}
      → IfGoingOn old (ReadsInto (λ (o w : Notes). o ≡ w) (reader_limits old) (reader_input old)
      (reader_input new) answer rs v) → (answer ≡ Ok true → spans ≡ v.spans)
      → (answer ≡ Ok true) ⊎ ((rs ≡ []) × (spans ≡ [])) → ReadsSpans old new answer rs spans
  spans_read run kept cleared = record {
    shared = h;
    next = λ live going. spanned_next answer (run live going) kept;
    memory = no_memory run;
    cleared = cleared;
  }

-- ==== A session goes on, gives a geometry, refuses or ends.

-- after a stream, a stream of one geometry more has its blob
pub blob_behind : (limits : Allowance) (bytes more : List ℕ) (gs : List Tree) (g : Tree)
    → Stream limits bytes gs → Stream limits (bytes ++ more) (gs ++ g ∷ []) → Blob limits more g
blob_behind limits bytes more gs g first whole =
    let behind = behind_stream limits bytes more gs (gs ++ g ∷ []) first whole in
    let (front, rest, is, blob, none) = subst (Stream limits more)
    (sym (append_cancel_left gs (g ∷ []) behind.0 behind.1)) behind.2 in
    subst (λ l. Blob limits l g) (sym (is ∙ (ap (λ l. front ++ l) none ∙ append-nil front))) blob

-- a session between two blobs, which has the rows of the last one
between : {bytes : List ℕ} {gs : List Tree} (new : Session) → Stream (session_limits new) bytes gs
    → new.engine.start ≡ length bytes
    → new.spent ≡ false → new.is_whole ≡ true → StandsAt [] [] new.engine → Stands bytes gs new
between {bytes} new stream start live closed begun = record {
  front = bytes;
  rest = [];
  whole = sym (append-nil bytes);
  few = (let few = new.taken_few live in omega (arith, few, start));
  blobs = stream;
  begun = subst (λ (b : Bool). StandsAt [] (if b then [] else session_rows new) new.engine) (sym closed) begun;
  start = start;
  live = live;
}

-- some bytes lead to the engine of a session that is not spent, with the rows of the geometry that is read
pub alive_with : {rs : List Row} (s : Session) → s.spent ≡ false → rs ≡ begun_rows s → IsAlive rs s.engine
alive_with s live same = subst (λ l. IsAlive l s.engine) (sym same) (s.alive live)

module _ {bytes : List ℕ} {gs : List Tree} {old : Session} (s : Stands bytes gs old) where
  abbrev own : Allowance
  own = session_limits old

  -- so many bytes came in all
  pub so_many : length bytes ≡ old.engine.start + count_of old.engine
  so_many = omega (
    arith,
    ap length s.whole,
    length-append s.front s.rest,
    s.start,
    count_is s.rest (begun_rows old) old.engine s.begun,
  )

  -- where an engine stands whose form has the rows of no other geometry
  begun_at : {rs : List Row} → rs ≡ begun_rows old → StandsAt s.rest rs old.engine
  begun_at same = subst (λ l. StandsAt s.rest l old.engine) (sym same) s.begun

  -- further bytes
  further : (more : List ℕ) → bytes ++ more ≡ s.front ++ (s.rest ++ more)
  further more = ap (λ l. l ++ more) s.whole ∙ append_assoc s.front s.rest more

  -- ---- after the whole blobs come bytes with a fault, or of a blob, or none

  abbrev pub fault_at : {rest all : List ℕ} {within offset : ℕ} {reason : Reason}
      → all ≡ s.front ++ rest → offset ≡ old.engine.start + within
      → FirstFault own rest within reason → StreamFault own all gs offset reason
  fault_at {rest} {all} {within} whole place first =
      record {
        front = s.front;
        rest = rest;
        within = within;
        whole = whole;
        blobs = s.blobs;
        first = first;
        place = place ∙ ap (λ n. n + within) s.start;
      }

  blob_at : {rest all : List ℕ} {g : Tree} → all ≡ s.front ++ rest → Blob own rest g → Stream own all (gs ++ g ∷ [])
  blob_at {rest} {all} {g} whole blob =
      subst (λ l. Stream own l (gs ++ g ∷ [])) (sym whole)
      (stream-append own s.front rest gs (g ∷ []) s.blobs
      (rest, [], sym (append-nil rest), blob, refl))

  pub none_at : {rest all : List ℕ} → all ≡ s.front ++ rest → rest ≡ [] → Stream own all gs
  none_at whole none = subst (λ l. Stream own l gs)
      (sym (whole ∙ (ap (λ l. s.front ++ l) none ∙ append-nil s.front))) s.blobs

  cut_at : {rest all : List ℕ} → all ≡ s.front ++ rest → AreCutOff own rest → AreBegun own all gs
  cut_at whole (inl none) = inl (none_at whole none)
  cut_at whole (inr (offset, cut)) = inr (old.engine.start + offset, fault_at whole refl cut)

  part_at : {piece : List ℕ} → PartIn own s.rest piece → PartAt own bytes gs piece
  part_at part = record { front = s.front; rest = s.rest; whole = s.whole; blobs = s.blobs; part = part }

  -- what the end of a stream is answered
  pub finished : {A : Type 0} (answer : Result A BlobFault)
      → ((bs : List ℕ) (rs : List Row) → StandsAt bs rs old.engine
      → EndsAt (session_limits old) old.engine.start bs answer)
      → Finished (session_limits old) bytes gs answer
  finished (Ok done) ends = none_at s.whole (ends s.rest (begun_rows old) s.begun)
  finished (Err (fault.At offset reason)) ends =
      let h = ends s.rest (begun_rows old) s.begun in fault_at s.whole h.2 h.1
  finished (Err why) ends = absurd (ends s.rest (begun_rows old) s.begun)

  -- ---- a piece was fed

  module _ {S : Type 0} {holds : S → Notes → Type 0} {w v : S} {piece : List ℕ} {rs : List Row} (new : Session) where
    pub fed_ok : {used : ℕ} (ends : Bool) → Feeds holds old.engine rs w piece
        (Ok (used, ends)) new.engine (session_rows new) v
        → new.spent ≡ false → new.is_whole ≡ ends → rs ≡ begun_rows old
        → FedFlat bytes gs piece (Ok (used, ends)) new
    fed_ok {used} false f live is same =
        let limits : session_limits new ≡ own = f.limits in
        let h = f.fed s.rest (begun_at same) in
        let stood : StandsAt (s.rest ++ piece) (session_rows new) new.engine =
        subst (λ l. StandsAt (s.rest ++ l) (session_rows new) new.engine)
        (ap (λ n. take n piece) (f.all refl) ∙ take-length piece) h.2 in (
          f.all refl,
          record {
            front = s.front;
            rest = s.rest ++ piece;
            whole = further piece;
            few = (let few = new.taken_few live in omega (
              arith,
              few,
              h.1,
              so_many,
              length-append bytes piece,
              length-append s.rest piece,
              count_is s.rest rs old.engine (begun_at same),
              count_is (s.rest ++ piece) (session_rows new) new.engine stood,
            ));
            blobs = subst (λ l. Stream l s.front gs) (sym limits) s.blobs;
            begun = subst (λ (b : Bool). StandsAt (s.rest ++ piece)
                (if b then [] else session_rows new) new.engine) (sym is) stood;
            start = h.1 ∙ s.start;
            live = live;
          },
        )
    fed_ok {used} true f live is same =
        let limits : session_limits new ≡ own = f.limits in
        let h = f.fed s.rest (begun_at same) in
        let m = h.0 in
        let piece_used : List ℕ = take used piece in
        let stream : Stream (session_limits new) (bytes ++ piece_used) (gs ++ m.geometry ∷ []) =
        subst (λ l. Stream l (bytes ++ piece_used) (gs ++ m.geometry ∷ [])) (sym limits)
        (blob_at (further piece_used) m.blob) in
        let start : new.engine.start ≡ length (bytes ++ piece_used) =
        omega (
          arith,
          h.3,
          so_many,
          count_is s.rest rs old.engine (begun_at same),
          length-append bytes piece_used,
          length-take-le used piece m.within,
        ) in
        (m.geometry, (m.some, m.within, stream, between new stream start live is h.2), m.made)

    pub fed_err : (why : BlobFault) {e : Engine} {more : List Row}
        → Feeds holds old.engine rs w piece (Err why) e more v
        → session_limits new ≡ own → rs ≡ begun_rows old → FedSession bytes gs piece (Err why) new
    fed_err fault.Memory f limits same = rw limits (part_at (f.fed s.rest (begun_at same)))
    fed_err (fault.At offset reason) f limits same =
        let h = f.fed.0 s.rest (begun_at same) in
        rw limits (record {
          used = h.used;
          some = h.some;
          within = h.within;
          fault = λ more. fault_at (ap (λ l. (l ++ take h.used piece) ++ more) s.whole
              ∙ simp append_assoc) f.fed.1 (h.fault more);
        })
    fed_err (fault.Device why) f limits same =
        let h = f.fed in
        let taken : ℕ = old.engine.start + count_of old.engine in
        let begun = cut_at (further (take (MAX_BYTES - taken) piece)) (h.2 s.rest (begun_at same)) in (
          h.0,
          rw limits (record {
            past = (let past = h.1 in omega (arith, past, so_many));
            begun = subst (λ n. AreBegun own (bytes ++ take (MAX_BYTES - n) piece) gs)
                (sym so_many) begun;
          }),
        )
    fed_err fault.Spent f limits same = absurd f.fed

  -- ---- a geometry's tree

  -- there is no memory for it
  pub no_tree : (piece : List ℕ) (new : Session) (used : ℕ) → session_limits new ≡ own
      → FedFlat bytes gs piece (Ok (used, true)) new → PartAt (session_limits new) bytes gs piece
  no_tree piece new used limits (g, fed, is) =
      let stream : Stream own (s.front ++ (s.rest ++ take used piece)) (gs ++ g ∷ []) =
      rw (← limits, ← further (take used piece)) fed.2 in
      let blob = blob_behind own s.front (s.rest ++ take used piece) gs g s.blobs stream in
      rw limits (part_at (record {
        used = used;
        some = fed.0;
        within = fed.1;
        part = blob_judged own (s.rest ++ take used piece) g blob;
      }))

-- the tree that is made of the rows is the geometry
pub gave_tree : TreeLaw → (bytes : List ℕ) (gs : List Tree) (piece : List ℕ) (s : Session) (used : ℕ)
    (h : Tree) → FedFlat bytes gs piece (Ok (used, true)) s → rows 0 h ≡ session_rows s
    → IsValid largest_limits h → FedSession bytes gs piece (Ok (used, Some h)) s
gave_tree law bytes gs piece s used h (g, fed, is) made valid =
    subst (λ x. FedSession bytes gs piece (Ok (used, Some x)) s)
    (tree_made law (session_rows s) g h (last_tree (session_limits s) (bytes ++ take used piece) gs g fed.2) is
    made valid) fed
