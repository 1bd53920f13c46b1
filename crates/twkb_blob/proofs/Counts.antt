-- The bytes say how many of them are held and how many geometries are begun.
use Rattle.std.proofs.Common.{◌≡◌, ℕ, zero, suc, ◌+◌, ◌<◌, ◌≤◌, inl, inr, List, [], ◌∷◌, ◌++◌, length}
use Rattle.std.proofs.Common.{length-append, refl}
use Rattle.std.proofs.Common.{sym, ap, ◌∙◌, subst, append_assoc, append-nil, Option, Bool, true, false, Some, arith}
use Rattle.std.specs.Prelude.{sum_by}
use Rattle.std.proofs.lemmas.List.{nil_from_length}
use Rattle.std.proofs.lemmas.List.Sums.{sum_by-append, sum_by-cons}
use Rattle.twkb_num.specs.Varint.{IsOpenVarint}
use Rattle.twkb_tree.specs.Tree.{Tree}
use Rattle.twkb_tree.specs.Rows.{Row}
use Rattle.twkb_tree.specs.Limits.{Allowance}
use Rattle.twkb_grammar.specs.Roles.{Role, End, Item, join}
use Rattle.twkb_grammar.specs.Items.{Stream}
use Rattle.twkb_grammar.specs.Fault.{Part, FirstFault, StreamFault, Truncated}
use Rattle.twkb_grammar.specs.Machine.{Frame, Phase, AtHeader, Finished, Sums, nothing, sums_after, started}
use Rattle.twkb_grammar.specs.Machine.{role_at}
use Rattle.twkb_grammar.specs.Reading as reading
use Rattle.twkb_grammar.specs.Reading.{open_by, open_after, frame_count}
use Rattle.twkb_grammar.proofs.Parts.{peel, run_on, reached_frames}
use Rattle.twkb_grammar.proofs.Running.{part_ran, ran_part}
use Rattle.twkb_grammar.proofs.OneFault.{Beyond, Compared, longer, shorter, same, two_fronts, part_front}
use Rattle.twkb_grammar.proofs.OneFault.{none_beyond_fault}
use Rattle.twkb_grammar.proofs.Streams.{no_items, no_stream, one_stream_fault, same_front}
use Rattle.twkb_grammar.proofs.Standing.{none_longer}
use Rattle.twkb_body.specs.Reading.{open_count}
use Rattle.twkb_body.proofs.Outlines.{same_count}
use Rattle.twkb_engine.specs.State.{allowance_of, stage_at, sums_of}
use Rattle.twkb_engine.specs.Collections.{frames_of}
use Rattle.twkb_engine.specs.Taking.{open_in}
use Rattle.twkb_engine.specs.Standing.{StandsAt, IsEnd, held_in, offset_in}
use Rattle.twkb_engine.proofs.Items.{few_open, frames_length}
use Rattle.twkb_engine.proofs.Steps.{next_role, next_no_end, next_number}
use Rattle.twkb_body.specs.Outline.{FrameOutline, outline_role}
use Rattle.twkb_body.proofs.Outlined.{same_role}
use Rattle.twkb_engine.proofs.Answering.{count_is}
use Rattle.twkb_engine.specs.declared.engine.Engine.{Engine}
use Rattle.twkb_engine.specs.declared.next_item.NextItem.{NextItem}
use Rattle.twkb_engine.specs.declared.next_item.NextItem.TheVariants as next
use Rattle.twkb_blob.specs.Sessions.{Stands, HeldOf, FramesOf, AreOpen, begun_by, ended_by, begun_rows, session_limits}
use Rattle.twkb_blob.specs.declared.session.Session.{Session}
use Rattle.twkb_blob.proofs.Answering.{fault_at, none_at, so_many}

-- ---- headers less ends

-- at the end of a geometry one is open
frame_at_end : (e : Sums) (fs : List Frame) (p : Phase) (r : Role) (d : Option ℕ) (came : ℕ)
    → role_at e (fs, p) ≡ Some r → r ≡ End d came → 0 < frame_count (fs, p)
frame_at_end e fs AtHeader r d came says is = absurd cc
frame_at_end e fs (Finished g) r d came says is = absurd cc
frame_at_end e fs p r d came says is = omega arith

open_at_end : (limits : Allowance) (before : List Item) (i : Item) (d : Option ℕ) (came : ℕ)
    → Part limits (before ++ i ∷ []) → i.role ≡ End d came → 0 < open_after 0 before
open_at_end limits before i d came part is =
    let whole = part_ran limits (before ++ i ∷ []) part in
    let front = part_ran limits before (part_front limits before (i ∷ []) part) in
    let next = run_on before (i ∷ []) front.0 whole.0 whole.1.runs front.1.runs in
    subst (λ n. 0 < n) (reached_frames limits (join before) (sums_after nothing before) front.0
    (record { items = before; ran = front.1; sums = refl; spelled = refl }))
    (frame_at_end (sums_after nothing before) front.0.0 front.0.1 i.role d came next.0 is)

-- one item more
open_stage : (n a b : ℕ) (r : Role) → ((d : Option ℕ) (came : ℕ) → r ≡ End d came → 0 < n)
    → n + a ≡ b → open_by n r + (a + ended_by r) ≡ b + begun_by r
open_stage zero a b (End d came) some h = absurd (omega (arith, some d came refl))
open_stage zero a b r some h = omega (arith, h)
open_stage (suc n) a b (End d came) some h = omega (arith, h)
open_stage (suc n) a b r some h = omega (arith, h)

open_after-last : (n : ℕ) (is : List Item) (i : Item) → open_after n (is ++ i ∷ []) ≡ open_by (open_after n is) i.role
open_after-last n [] i = refl
open_after-last n (j ∷ is) i = open_after-last (open_by n j.role) is i

open_behind : (limits : Allowance) (before is : List Item) → Part limits (before ++ is)
    → AreOpen before (open_after 0 before) → AreOpen (before ++ is) (open_after 0 (before ++ is))
open_behind limits before [] part h = subst (λ l. AreOpen l (open_after 0 l)) (sym (append-nil before)) h
open_behind limits before (i ∷ is) part h =
    let at = append_assoc before (i ∷ []) is in
    let whole = subst (Part limits) (sym at) part in
    let step = open_stage (open_after 0 before) (sum_by (λ i. ended_by i.role) before)
    (sum_by (λ i. begun_by i.role) before) i.role
    (λ d came e. open_at_end limits before i d came (part_front limits (before ++ i ∷ []) is whole) e) h in
    let more : AreOpen (before ++ i ∷ []) (open_after 0 (before ++ i ∷ [])) =
    omega (
      arith,
      step,
      open_after-last 0 before i,
      sum_by-append (λ i. ended_by i.role) before (i ∷ []),
      sum_by-cons (λ i. ended_by i.role) i [],
      sum_by-append (λ i. begun_by i.role) before (i ∷ []),
      sum_by-cons (λ i. begun_by i.role) i [],
    ) in
    subst (λ l. AreOpen l (open_after 0 l)) at (open_behind limits (before ++ i ∷ []) is whole more)

-- of a part, those that are begun and not ended are the headers less the ends
part_open : (limits : Allowance) (is : List Item) → Part limits is → AreOpen is (open_after 0 is)
part_open limits is part = open_behind limits [] is part refl

-- ---- what an engine holds and has begun

-- the geometries that are begun are those of the items that were taken
frames_are : (bs : List ℕ) (rs : List Row) (d : Engine) (s : StandsAt bs rs d)
    → open_in d ≡ open_after 0 s.outlined.reached.items
frames_are bs rs d s =
    sym (same_count s.outlined.stack.0 s.outlined.stack.1 ∙ ap open_count s.outlined.outline)
    ∙ reached_frames (allowance_of d) s.front (sums_of d) s.outlined.stack s.outlined.reached

-- they are the collections, and at most one geometry more
open_few : (n : NextItem) (e : Engine) (frames : List FrameOutline)
    → open_count (frames, stage_at n e) ≤ length frames + 1
open_few next.TypeByte e frames = omega arith
open_few n e frames = omega arith

-- the items before a missing one, of the same bytes as the items of a part, are the items of that
-- part if they do not go on beyond it
same_items : (limits : Allowance) (bytes : List ℕ) (offset : ℕ)
    (f : FirstFault limits bytes offset Truncated) (is : List Item) (x : List ℕ)
    → Part limits is → join is ++ x ≡ bytes → ¬ Beyond f.fault.before is → f.fault.before ≡ is
same_items limits bytes offset f is x part at none =
    let ran = part_ran limits f.fault.before f.alive in
    let run = part_ran limits is part in
    go (two_fronts f.fault.before is nothing started ran.0 run.0 f.fault.rest x ran.1.runs
    run.1.runs (sym f.fault.split ∙ sym at))
  where
    go : Compared f.fault.before is → f.fault.before ≡ is
    go (longer n) = absurd (none n)
    go (shorter n) = absurd (none_beyond_fault limits bytes offset Truncated f.fault is x part at n)
    go (same i) = i

-- where an engine stands, a reader of a stream of one blob does
stands_of : (bs : List ℕ) (rs : List Row) (d : Engine) → IsOpenVarint (held_in d)
    → (s : StandsAt bs rs d) → reading.Stands (allowance_of d) bs [] (sums_of d) s.outlined.stack
    (held_in d)
stands_of bs rs d o s =
    let r = next_role d in
    record {
      front = [];
      middle = s.front;
      whole = s.whole;
      blobs = refl;
      reached = s.outlined.reached;
      role = r.0;
      wants = same_role (sums_of d) s.outlined.stack ∙ (ap (λ p. outline_role (sums_of d) p) s.outlined.outline ∙ r.1);
      spelled = next_no_end d;
      go_on = o.high;
      few = omega (arith, o.room);
      number = elim s.spelled [
        | inl spelled ↦ inr (next_number d spelled)
        | inr none ↦ inl none
      ];
    }

-- ---- what a session answers

module _ {bytes : List ℕ} {gs : List Tree} {old : Session} (s : Stands bytes gs old) where
  abbrev own : Allowance
  own = session_limits old

  abbrev d : Engine
  d = old.engine

  -- the bytes that it holds
  pub held_told : (between : Bool) → IsEnd own s.rest (offset_in d) between → HeldOf own bytes gs (length (held_in d))
  held_told true none = inl (
    none_at s s.whole none,
    omega (arith, ap length none, count_is s.rest (begun_rows old) d s.begun),
  )
  held_told false first = inr (d.start + offset_in d, fault_at s s.whole refl first, omega (arith, so_many s))

  -- the geometries that are begun
  frames_at : IsOpenVarint (held_in d) → (between : Bool)
      → IsEnd own s.rest (offset_in d) between → FramesOf own bytes gs (open_in d)
  unfolding stands_of
  frames_at o true none =
      let r = s.begun.outlined.reached in
      let front : s.begun.front ≡ [] =
      nil_from_length s.begun.front
      (omega (
        arith,
        ap length (sym s.begun.whole ∙ none),
        length-append s.begun.front
            (held_in d),
      )) in
      inl (
        none_at s s.whole none,
        frames_are s.rest (begun_rows old) d s.begun
            ∙ ap (open_after 0) (no_items r.items s.begun.outlined.stack r.ran.runs
            (r.spelled ∙ front)),
      )
  frames_at o false first =
      let r = s.begun.outlined.reached in
      let stands = stands_of s.rest (begun_rows old) d o s.begun in
      let at : join r.items ++ held_in d ≡ s.rest = ap (λ l. l ++ held_in d) r.spelled ∙ sym s.begun.whole in
      let ran = part_ran own first.fault.before first.alive in
      let before : first.fault.before ≡ r.items =
      same_items own s.rest (offset_in d) first r.items (held_in d)
      (ran_part own r.items s.begun.outlined.stack r.ran) at
      (none_longer own s.rest [] (sums_of d) s.begun.outlined.stack (held_in d) stands
      first.fault.before ran.0 first.fault.rest ran.1.runs
      (sym first.fault.split ∙ s.begun.whole)) in
      let many : open_after 0 first.fault.before ≡ open_in d = ap (open_after 0) before
      ∙ sym (frames_are s.rest (begun_rows old) d s.begun) in
      inr (
        d.start + offset_in d,
        fault_at s s.whole refl first,
        subst (λ n. AreOpen first.fault.before n) many
            (part_open own first.fault.before first.alive),
      )

  -- as many as the engine has begun
  pub frames_told : (n : ℕ) → n ≡ open_in old.engine → IsOpenVarint (held_in old.engine) → (between : Bool)
      → ((bs : List ℕ) (rs : List Row) → StandsAt bs rs old.engine
      → IsEnd (session_limits old) bs (offset_in old.engine) between)
      → FramesOf (session_limits old) bytes gs n
  frames_told n is o between ends = subst (λ m. FramesOf own bytes gs m) (sym is)
      (frames_at o between (ends s.rest (begun_rows old) s.begun))

  -- no more than may be nested
  pub frames_few : open_in old.engine ≤ (session_limits old).nest + 1
  frames_few = omega (
    arith,
    open_few d.next d (frames_of d.collections),
    frames_length [] d.collections,
    few_open s.rest (begun_rows old) d s.begun,
  )

-- ---- the bytes tell both

-- no bytes are whole blobs and cut inside one
whole_or_cut : (limits : Allowance) (bytes : List ℕ) (gs hs : List Tree) (offset : ℕ)
    → Stream limits bytes gs → StreamFault limits bytes hs offset Truncated → ⊥
whole_or_cut limits bytes gs hs offset s f =
    no_stream limits f.front f.rest hs gs f.within Truncated f.blobs f.first.fault
    (subst (λ l. Stream limits l gs) f.whole s)

-- one number of bytes
pub one_held : (limits : Allowance) (bytes : List ℕ) (gs hs : List Tree) (m n : ℕ)
    → HeldOf limits bytes gs m → HeldOf limits bytes hs n → m ≡ n
one_held limits bytes gs hs m n (inl a) (inl b) = a.1 ∙ sym b.1
one_held limits bytes gs hs m n (inl a) (inr b) = absurd (whole_or_cut limits bytes gs hs b.0 a.0 b.1)
one_held limits bytes gs hs m n (inr a) (inl b) = absurd (whole_or_cut limits bytes hs gs a.0 b.0 a.1)
one_held limits bytes gs hs m n (inr a) (inr b) =
    let one = one_stream_fault limits bytes gs hs a.0 b.0 Truncated Truncated a.1 b.1 in omega (arith, one.1, a.2, b.2)

-- one number of geometries
pub one_frames : (limits : Allowance) (bytes : List ℕ) (gs hs : List Tree) (m n : ℕ)
    → FramesOf limits bytes gs m → FramesOf limits bytes hs n → m ≡ n
one_frames limits bytes gs hs m n (inl a) (inl b) = a.1 ∙ sym b.1
one_frames limits bytes gs hs m n (inl a) (inr b) = absurd (whole_or_cut limits bytes gs hs b.0 a.0 b.1)
one_frames limits bytes gs hs m n (inr a) (inl b) = absurd (whole_or_cut limits bytes hs gs a.0 b.0 a.1)
one_frames limits bytes gs hs m n (inr (o, a, many)) (inr (p, b, much)) =
    let here : a.front ++ a.rest ≡ b.front ++ b.rest = sym a.whole ∙ b.whole in
    let front : a.front ≡ b.front = (same_front limits a.front b.front a.rest b.rest gs hs a.within b.within Truncated
    Truncated a.blobs b.blobs a.first b.first here).1 in
    let x = a.first.fault in
    let y = b.first.fault in
    let at : join y.before ++ y.rest ≡ a.rest = sym (peel a.front b.front a.rest b.rest front here ∙ y.split) in
    let before : x.before ≡ y.before =
    same_items limits a.rest a.within a.first y.before y.rest b.first.alive at
    (none_beyond_fault limits b.rest b.within Truncated y x.before x.rest a.first.alive
    (sym x.split ∙ peel a.front b.front a.rest b.rest front here)) in
    let all : AreOpen y.before m = subst (λ l. AreOpen l m) before many in
    omega (arith, all, much)
