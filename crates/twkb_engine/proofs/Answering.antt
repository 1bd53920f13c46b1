-- How an engine takes the bytes of a piece, and what it answers.
use Rattle.std.proofs.Common.{append_assoc, length-append, take, Result, None, Ok, Err, OnOk, IfOk, ◌≡◌, inl, inr, ℕ}
use Rattle.std.proofs.Common.{◌+◌, ◌<◌, ◌≤◌, List, [], ◌∷◌, ◌++◌, length, refl, sym, ap, ◌∙◌, subst, append-nil}
use Rattle.std.proofs.Common.{arith, true, false, Bool, drop, get_or, ◌-◌}
use Rattle.std.proofs.lemmas.List.{length-take-le, length-drop, nil_from_length, take_rest, take-take}
use Rattle.std.proofs.Math.Logic.{∥∥₁_elim, ∥∥₁_map}
use Rattle.std.proofs.Props.{props}
use Rattle.twkb_num.specs.Varint.{IsVarint}
use Rattle.twkb_tree.specs.Limits.{Allowance}
use Rattle.twkb_tree.specs.Rows.{Row}
use Rattle.twkb_grammar.specs.Fault.{FirstFault, IsTooLong, Reason, BadVarint}
use Rattle.twkb_grammar.specs.Roles.{Role, Item}
use Rattle.twkb_grammar.specs.Reading.{objection, Gives}
use Rattle.twkb_grammar.specs.Machine.{Sums, added}
use Rattle.twkb_grammar.specs.Noting.{Notes, noted_by, note_ends_to}
use Rattle.twkb_body.specs.Outline.{Outline, OnFinished, outline_ends}
use Rattle.twkb_body.specs.Growing.{applied}
use Rattle.twkb_body.specs.Reading.{NotedOutline, notes_in, Outlined, OutlineLanded, outline_after, change_after}
use Rattle.twkb_body.specs.HeaderParts.{PartIn, Passes, IsJudged}
use Rattle.twkb_body.proofs.Outlined.{outlined_bytes, outlined_long, outlined_ends, outlined_refused, noted_item}
use Rattle.twkb_body.proofs.PointRuns.{landed_judged}
use Rattle.twkb_engine.specs.Fits.{IsByte}
use Rattle.twkb_engine.specs.Taking.{NotesGo, notes_with, open_in, TakesItem, BeginsAt, Stays}
use Rattle.twkb_engine.specs.State.{IsNext, IsPlaced, sums_of, outline_in, allowance_of}
use Rattle.twkb_engine.specs.Standing.{StandsAt, IsAlive, FedBy, IsFed, count_of, RefusedIn, with_used, notes_at}
use Rattle.twkb_engine.specs.Standing.{held_in, offset_in, LeadsOn, TakesMany, IsReady, IsAnswer, HoldsSpans}
use Rattle.twkb_engine.specs.Standing.{SaysNext, StopsIn}
use Rattle.twkb_engine.specs.Stops.{Stop, reason_of}
use Rattle.twkb_flat.specs.declared.stop.Stop.TheVariants.{Memory, Refused}
use Rattle.twkb_engine.specs.declared.engine.Engine.{Engine}
use Rattle.twkb_engine.proofs.Steps.{next_role, next_number, open_noted, noted_ends, outlined_blob, stands_begun}
use Rattle.twkb_engine.proofs.Steps.{stands_whole, number_written, stands_else, all_whole, noted_at, Fields}
use Rattle.twkb_engine.proofs.Steps.{SameItem}
use Rattle.std.specs.Result.{IsErrAnd}
use Rattle.std.proofs.lemmas.Result.{err_from_is_err_and}
use Rattle.std.proofs.Math.Seq.{take-suc}
use Rattle.twkb_grammar.specs.Items.{Blob}
use Rattle.twkb_body.proofs.InFront.{long_in_ten, one_front, one_within}
use Rattle.twkb_engine.specs.declared.blob_reason.BlobReason.TheVariants.{BadVarint as BadVarintReason}

-- ==== An engine takes the bytes of a piece.

-- ---- bytes that lead past an item

-- so many bytes of the piece lead here, before the ends
pub record Reads (limits : Allowance) (bs piece : List ℕ) (used : ℕ) (sums : Sums) (o : Outline)
    (rs : List Row) (told : ℕ → Notes) : Type 0 where
  pub some : 0 < used
  pub within : used ≤ length piece
  pub stood : NotedOutline limits (bs ++ take used piece) sums o rs told

module _ {limits : Allowance} {bs piece : List ℕ} {used : ℕ} {sums : Sums} {o : Outline}
    {rs : List Row} {told : ℕ → Notes} (r : Reads limits bs piece used sums o rs told) where
  -- past the ends it goes on
  pub past_on : {S : Type 0} (holds : S → Notes → Type 0) (Known : Type 0) (start : ℕ) (more : List Row)
      (e : Engine) (new : S) → outline_ends sums.bytes o ≡ Ok (outline_in e) → sums_of e ≡ sums
      → e.limits ≡ limits → e.start ≡ start → more ≡ rs → IsPlaced e.next e → held_in e ≡ []
      → (Known → holds new (note_ends_to (open_in e) (start + sums.bytes) sums.points (told start)))
      → IsFed holds Known limits start bs piece (Ok (used, false)) more e new
  past_on holds Known start more e new way same own begins rows placed none go =
      let n = noted_ends limits (bs ++ take used piece) sums rs o (outline_in e) told way r.stood in
      let t = stands_whole (bs ++ take used piece) more e n own same refl rows placed refl none in
      let last : ℕ → Notes = λ k. note_ends_to (open_in e) (k + sums.bytes) sums.points (told k) in
      (r.within, begins, t.0, λ known. subst (holds new) (sym (t.1 ∙ ap last begins)) (go known))

  -- the blob ends with them
  pub past_blob : {S : Type 0} (holds : S → Notes → Type 0) (Known : Type 0) (start : ℕ) (more : List Row)
      (e : Engine) (new : S) → outline_ends sums.bytes o ≡ Ok ([], OnFinished)
      → BeginsAt (start + sums.bytes) e → more ≡ rs → held_in e ≡ []
      → (Known → holds new (note_ends_to 0 (start + sums.bytes) sums.points (told start)))
      → IsFed holds Known limits start bs piece (Ok (used, true)) more e new
  past_blob holds Known start more e new way begins rows none go =
      let bytes = bs ++ take used piece in
      let n = noted_ends limits bytes sums rs o ([], OnFinished) told way r.stood in
      let w = outlined_blob limits bytes sums rs n.outlined in
      let within = r.within in (
        record { some = r.some; within = within; geometry = w.0; blob = w.2; made = rows ∙ w.1 },
        λ known. (_, go known, ap (λ (v : Notes). v.spans) (sym (n.notes start)) ∙ w.3 start),
        stands_begun (start + sums.bytes) e begins none,
        omega (
          arith,
          begins.start,
          outlined_bytes limits bytes sums o rs r.stood.outlined,
          length-append bs (take used piece),
          length-take-le used piece within,
        ),
      )

  past_landed : OutlineLanded limits (bs ++ take used piece) sums rs (outline_ends sums.bytes o)
  past_landed = outlined_ends limits (bs ++ take used piece) sums o rs r.stood.outlined

  -- the sizes are exact
  pub past_judged : Passes (outline_ends sums.bytes o) → PartIn limits bs piece
  past_judged pass =
      let p = landed_judged limits (bs ++ take used piece) sums rs (outline_ends sums.bytes o) past_landed pass in
      record { used = used; some = r.some; within = r.within; part = p }

  -- one is wrong
  pub past_wrong : (offset : ℕ) (reason : Reason) → outline_ends sums.bytes o ≡ Err reason
      → offset ≡ sums.bytes → RefusedIn limits bs piece offset reason
  past_wrong offset reason way at =
      let f = subst (OutlineLanded limits (bs ++ take used piece) sums rs) way past_landed in
      let g = subst (λ k. (rest : List ℕ) → FirstFault limits ((bs ++ take used piece) ++ rest) k reason) (sym at) f in
      record { used = used; some = r.some; within = r.within; fault = g }

-- ---- an item is taken

module _ {S : Type 0} (holds : S → Notes → Type 0) (front : List ℕ) (rs more : List Row) (d e : Engine) (old new : S)
    (bs bytes piece : List ℕ) (n used : ℕ) (s : StandsAt front rs d) (gives : Gives (next_role d).0 n bytes)
    (some : 0 < used) (within : used ≤ length piece) (at : s.front ++ bytes ≡ bs ++ take used piece)
    (none : held_in d ≡ []) where
  abbrev r : Role
  r = (next_role d).0

  abbrev says : IsNext r d
  says = (next_role d).1

  abbrev item : Item
  item = record { role = r; number = n; bytes = bytes }

  abbrev told : ℕ → Notes
  told = λ start. noted_by start (sums_of d) r n (notes_in start s.outlined)

  abbrev Known : Type 0
  Known = holds old (notes_at s)

  reads : objection d.limits (sums_of d) r n ≡ None
      → Reads d.limits bs piece used (added (sums_of d) item) (outline_after (sums_of d) item (outline_in d))
      (applied (change_after (sums_of d) item (outline_in d)) rs) told
  reads free = record {
    some = some;
    within = within;
    stood = subst (λ l. NotedOutline d.limits l (added (sums_of d) item)
        (outline_after (sums_of d) item (outline_in d))
        (applied (change_after (sums_of d) item (outline_in d)) rs) told) at
        (noted_item d.limits s.front (sums_of d) (outline_in d) rs _ item (noted_at s) says gives free);
  }

  noted : (w : Notes → Notes) → NotesGo holds w d old new → Known → holds new (w (notes_at s))
  noted w go known =
      go _ (open_noted d.limits s.front (sums_of d) (outline_in d) rs s.outlined d.start) known

  of_answer : (answer : Result Bool Stop) → TakesItem holds r n (length bytes) d rs old answer e more new
      → IsFed holds Known (allowance_of d) d.start bs piece (with_used used answer) more e new
  of_answer (Ok false) t =
      let k = t.taken in
      past_on (reads k.0) holds Known d.start more e new k.1 k.2 t.kept.limits k.4.start k.3 (t.placed s.placed)
      (t.kept.held ∙ none) (noted (notes_with r n (length bytes) d e false) t.noted)
  of_answer (Ok true) t =
      let k = t.taken in
      past_blob (reads k.0) holds Known d.start more e new k.1 k.3 k.2 (t.kept.held ∙ none)
      (noted (notes_with r n (length bytes) d e true) t.noted)
  of_answer (Err Memory) t = past_judged (reads t.taken.0) t.taken.1
  of_answer (Err (Refused why)) t = elim t.taken [
    | inl k ↦ record {
      used = used;
      some = some;
      within = within;
      fault = λ rest. subst (λ l. FirstFault d.limits (l ++ rest) e.bytes (reason_of why)) at
          (rw (append_assoc, k.1) (outlined_refused d.limits s.front (sums_of d) (outline_in d) rs item
          (reason_of why) s.outlined says gives k.0 rest));
    }
    | inr k ↦ past_wrong (reads k.0) e.bytes (reason_of why) k.1 k.2
  ]

  pub item_fed : {width : ℕ} (answer : Result Bool Stop) → length bytes ≡ width
      → ((r : Role) → IsNext r d → TakesItem holds r n width d rs old answer e more new)
      → IsFed holds Known (allowance_of d) d.start bs piece (with_used used answer) more e new
  item_fed answer size t =
      of_answer answer (subst (λ k. TakesItem holds r n k d rs old answer e more new) (sym size) (t r says))

-- the limits stay
pub limits_kept : {S : Type 0} {holds : S → Notes → Type 0} {rs more : List Row} {d e : Engine} {old new : S}
    {n width : ℕ} {answer : Result Bool Stop}
    → ((r : Role) → IsNext r d → TakesItem holds r n width d rs old answer e more new) → e.limits ≡ d.limits
limits_kept {d = d} t = let r = next_role d in (t r.0 r.1).kept.limits

-- ---- a byte is taken

-- before a byte no number is held
pub byte_alone : (bs : List ℕ) (rs : List Row) (d : Engine) → IsByte d.next → StandsAt bs rs d → held_in d ≡ []
byte_alone bs rs d byte s = elim s.spelled [ inl f ↦ absurd (f byte) | inr none ↦ none ]

-- a byte more is held of a number
pub held_more : (bs : List ℕ) (u : ℕ) (rs : List Row) (d e : Engine) (s : StandsAt bs rs d)
    → held_in e ≡ held_in d ++ u ∷ [] → bs ++ u ∷ [] ≡ s.front ++ held_in e
held_more bs u rs d e s more = ap (λ l. l ++ u ∷ []) s.whole
    ∙ (append_assoc s.front (held_in d) (u ∷ []) ∙ ap (λ l. s.front ++ l) (sym more))

-- the bytes of a number after whole items
pub held_bytes : (bs front held next more : List ℕ) → bs ≡ front ++ held
    → front ++ (held ++ (next ++ more)) ≡ (bs ++ next) ++ more
held_bytes bs front held next more e = sym (ap (λ l. (l ++ next) ++ more) e
    ∙ append_assoc (front ++ held) next more ∙ append_assoc front held (next ++ more))

-- after the bytes that are held, so many of the piece make the number too long
pub long_refused : (bs piece : List ℕ) (used : ℕ) (rs : List Row) (d : Engine) → StandsAt bs rs d
    → (IsByte d.next → ⊥) → 0 < used → used ≤ length piece
    → ((more : List ℕ) → IsTooLong (held_in d ++ (take used piece ++ more)))
    → RefusedIn (allowance_of d) bs piece (offset_in d) BadVarint
long_refused bs piece used rs d s spelled some within long = record {
  used = used;
  some = some;
  within = within;
  fault = λ more. (let r = next_role d in let next : List ℕ = take used piece in
      subst (λ l. FirstFault d.limits l d.bytes BadVarint) (held_bytes bs s.front (held_in d) next more s.whole)
      (outlined_long d.limits s.front (sums_of d) (outline_in d) rs (held_in d ++ (next ++ more)) r.0
      s.outlined r.1 (next_number d spelled) (long more)));
}

-- the last byte of a number
pub number_fed : {S : Type 0} (holds : S → Notes → Type 0) (bs : List ℕ) (rs more : List Row)
    (d b e : Engine) (old new : S) (u value width : ℕ) (answer : Result Bool Stop)
    (s : StandsAt bs rs d) → SameItem d b → held_in b ≡ [] → (IsByte d.next → ⊥)
    → IsVarint (held_in d ++ u ∷ []) value → width ≡ length (held_in d) + 1
    → ((r : Role) → IsNext r b → TakesItem holds r value width b rs old answer e more new)
    → IsFed holds (holds old (notes_at s)) (allowance_of d) d.start bs (u ∷ []) (with_used 1 answer) more e new
number_fed holds bs rs more d b e old new u value width answer s q none spelled v size takes =
    let whole : List ℕ = held_in d ++ u ∷ [] in
    let (t, front, notes) = stands_else bs s.front rs d b q s
    (sym (ap (λ l. s.front ++ l) none ∙ append-nil s.front)) (inr none) in
    let at : t.front ++ whole ≡ bs ++ take 1 (u ∷ []) = ap (λ l. l ++ whole) front
    ∙ (held_bytes bs s.front (held_in d) (u ∷ []) [] s.whole ∙ append-nil (bs ++ u ∷ [])) in
    let fed = item_fed holds s.front rs more b e old new bs whole (u ∷ []) value 1 t
    (number_written b value whole v (λ byte. spelled (subst IsByte (ap (λ (g : Fields). g.next) q) byte)))
    (omega arith) (omega arith) at none answer (omega (arith, length-append (held_in d) (u ∷ []), size)) takes in
    subst (λ (x : Allowance × ℕ × Notes). IsFed holds (holds old x.2) x.0 x.1 bs (u ∷ [])
    (with_used 1 answer) more e new)
    (λ i. ((q i).limits, (q i).start, notes i)) fed

-- a byte of a number that goes on
pub more_fed : {S : Type 0} (holds : S → Notes → Type 0) (bs : List ℕ) (rs : List Row)
    (d e : Engine) (old : S) (u : ℕ) (s : StandsAt bs rs d) → SameItem d e → (IsByte d.next → ⊥)
    → held_in e ≡ held_in d ++ u ∷ []
    → IsFed holds (holds old (notes_at s)) (allowance_of d) d.start bs (u ∷ []) (Ok (1, false)) rs e old
more_fed holds bs rs d e old u s q spelled held =
    let (t, front, notes) = stands_else bs (bs ++ u ∷ []) rs d e q s (held_more bs u rs d e s held) (inl spelled) in
    (omega arith, ap (λ (g : Fields). g.start) q, t, λ known. subst (holds old) (sym notes) known)

pub not_both : (b : Bool) → b ≡ false → b ≡ true → ⊥
not_both true p q = absurd cc
not_both false p q = absurd cc

-- ---- what the engine counts

pub count_is : (bs : List ℕ) (rs : List Row) (d : Engine) → StandsAt bs rs d → length bs ≡ count_of d
count_is bs rs d s = omega (
  arith,
  ap (λ (l : List ℕ). length l) s.whole,
  length-append s.front
      (held_in d),
  outlined_bytes d.limits s.front (sums_of d) (outline_in d) rs s.outlined,
)

pub alive_left : {S : Type 0} (holds : S → Notes → Type 0) (piece : List ℕ) (used : ℕ)
    (rs more : List Row) (d e : Engine) (old new : S) → IsAlive rs d
    → FedBy holds d rs old piece (Ok (used, false)) e more new → IsAlive more e
alive_left holds piece used rs more d e old new alive fed = ∥∥₁_map alive
    (λ s. (s.0 ++ take used piece, (fed s.0 s.1).2))

-- no more are used than there are
pub used_within : {S : Type 0} (holds : S → Notes → Type 0) (piece : List ℕ) (count : ℕ)
    (ends : Bool) (rs more : List Row) (d e : Engine) (old new : S) → IsAlive rs d
    → FedBy holds d rs old piece (Ok (count, ends)) e more new → count ≤ length piece
used_within holds piece count false rs more d e old new alive fed = ∥∥₁_elim alive
    (Prim.hlevel props) (λ s. (fed s.0 s.1).0)
used_within holds piece count true rs more d e old new alive fed = ∥∥₁_elim alive
    (Prim.hlevel props) (λ s. (fed s.0 s.1).0.within)

-- ==== What an engine answers to a piece, alone and after another.

-- ---- bytes before the piece

-- an answer, with bytes that were used before
abbrev pub further : ℕ → Result (ℕ × Bool) Stop → Result (ℕ × Bool) Stop
further used (Ok r) = Ok (used + r.0, r.1)
further used (Err stop) = Err stop

further_none : (answer : Result (ℕ × Bool) Stop) → further 0 answer ≡ answer
further_none (Ok (n, b)) = let z : 0 + n ≡ n = omega arith in ap (λ k. Ok (k, b)) z
further_none (Err stop) = refl

-- an answer to bytes `part`, after `before`, is one to the piece, of which `k` more were used
module _ {S : Type 0} (holds : S → Notes → Type 0) (known after : Type 0) (limits : Allowance) (start : ℕ)
    (bs piece before part : List ℕ) (k : ℕ) (rs : List Row) (e : Engine) (new : S)
    (go : known → after) (long : length before ≡ length bs + k)
    (fits : (u : ℕ) → u ≤ length part → (k + u ≤ length piece)
    × (before ++ take u part ≡ bs ++ take (k + u) piece)) where
  shifted : (answer : Result (ℕ × Bool) Stop) → IsFed holds after limits start before part answer rs e new
      → IsFed holds known limits start bs piece (further k answer) rs e new
  shifted (Ok (u, false)) f =
      let both = subst (λ l. (t : StandsAt l rs e) × (after → holds new (notes_at t))) (fits u f.0).1 (f.2, f.3) in
      ((fits u f.0).0, f.1, both.0, λ x. both.1 (go x))
  shifted (Ok (u, true)) f =
      let m = f.0 in
      let both = subst (λ l. (b : Blob limits l m.geometry)
      × (after → HoldsSpans holds new start b)) (fits u m.within).1 (m.blob, f.1) in (
        record {
          some = (let some = m.some in omega (arith, some));
          within = (fits u m.within).0;
          geometry = m.geometry;
          blob = both.0;
          made = m.made;
        },
        λ x. both.1 (go x),
        f.2,
        omega (arith, f.3, long),
      )
  shifted (Err Memory) f = record {
    used = k + f.used;
    some = (let some = f.some in omega (arith, some));
    within = (fits f.used f.within).0;
    part = subst (IsJudged limits) (fits f.used f.within).1 f.part;
  }
  shifted (Err (Refused why)) f = record {
    used = k + f.used;
    some = (let some = f.some in omega (arith, some));
    within = (fits f.used f.within).0;
    fault = λ rest. subst (λ l. FirstFault limits (l ++ rest) (offset_in e) (reason_of why))
        (fits f.used f.within).1 (f.fault rest);
  }

-- of one byte
first_of : (u : ℕ) (piece : List ℕ) → 0 < length piece → u ≤ 1 → take u (get_or piece 0 0 ∷ []) ≡ take (0 + u) piece
first_of u piece some few =
    let same : u ≡ 0 + u = omega arith in
    ap (λ l. take u l) (sym (take-suc piece 0 0 some)) ∙ (take-take u 1 piece few ∙ ap (λ n. take n piece) same)

-- ---- answers

-- no bytes
pub none_fed : {S : Type 0} {holds : S → Notes → Type 0} {d : Engine} {rs : List Row} {old : S}
    {piece : List ℕ} → IsAnswer holds d rs old piece (Ok (0, false)) d rs old
none_fed {holds = holds} {d = d} {rs = rs} {old = old} = record {
  limits = refl;
  fed = λ bs s. (let both = subst (λ l. (t : StandsAt l rs d) × (holds old (notes_at s) → holds old (notes_at t)))
      (sym (append-nil bs)) (s, λ known. known) in (omega arith, refl, both.0, both.1));
}

-- no byte is held
pub alone : (d : Engine) {held : ℕ} → held ≡ length (held_in d) → held ≤ 0 → held_in d ≡ []
alone d count none = nil_from_length (held_in d) (omega (arith, count, none))

-- the next number is too long
pub long_fed : {S : Type 0} {holds : S → Notes → Type 0} {d : Engine} {rs : List Row} {old : S}
    {piece : List ℕ} → held_in d ≡ [] → (IsByte d.next → ⊥) → IsTooLong piece
    → IsAnswer holds d rs old piece (Err (Refused BadVarintReason)) d rs old
long_fed {d = d} {rs = rs} {piece = piece} none spelled long =
    let ten = long_in_ten piece long in
    record {
      limits = refl;
      fed = λ bs s. long_refused bs piece 10 rs d s spelled (omega arith) ten.0
          (λ more. subst (λ l. IsTooLong (l ++ (take 10 piece ++ more))) (sym none) (ten.1 more));
    }

module _ {S : Type 0} {holds : S → Notes → Type 0} {d e : Engine} {rs more : List Row} {old new : S}
    {piece : List ℕ} where
  -- the first byte alone
  pub first_fed : (answer : Result Bool Stop) → 0 < length piece → e.limits ≡ d.limits
      → FedBy holds d rs old (get_or piece 0 0 ∷ []) (with_used 1 answer) e more new
      → IsAnswer holds d rs old piece (with_used 1 answer) e more new
  first_fed answer some own fed = record {
    limits = own;
    fed = λ bs s. subst (λ x. IsFed holds (holds old (notes_at s)) d.limits d.start bs piece x more e new)
        (further_none (with_used 1 answer))
        (shifted holds _ _ d.limits d.start bs piece bs (get_or piece 0 0 ∷ []) 0 more e new (λ x. x) (omega arith)
        (λ u few. (omega (arith, some, few), ap (λ l. bs ++ l) (first_of u piece some few)))
        (with_used 1 answer) (fed bs s));
  }

  -- so many bytes say the next item
  pub front_fed : {n count : ℕ} (answer : Result Bool Stop) → held_in d ≡ [] → SaysNext d piece n count
      → ((r : Role) → IsNext r d → TakesItem holds r n count d rs old answer e more new)
      → IsAnswer holds d rs old piece (with_used count answer) e more new
  front_fed {n = n} {count = count} answer none says takes =
      let r = next_role d in
      record {
        limits = limits_kept takes;
        fed = λ bs s. item_fed holds bs rs more d e old new bs (take count piece) piece n count s (says.gives r.0 r.1)
            says.some says.within (ap (λ l. l ++ take count piece) (sym (all_whole bs rs d none s))) none answer
            (length-take-le count piece says.within) takes;
      }

  -- bytes lead on within the blob
  pub led_fed : {used : ℕ} → used ≤ length piece → LeadsOn holds rs d old (take used piece) more e new
      → Stays d e → IsAnswer holds d rs old piece (Ok (used, false)) e more new
  led_fed within led stays =
      record { limits = stays.limits; fed = λ bs s. (let f = led bs s in (within, stays.start, f.0, f.1)) }

  -- the same stop
  pub same_stop : {stop : Stop} {r : Result (ℕ × Bool) Stop} → IsErrAnd r (λ y. y ≡ stop)
      → IsAnswer holds d rs old piece (Err stop) e more new → IsAnswer holds d rs old piece r e more new
  same_stop {r = r} is a = let p = err_from_is_err_and r is in rw (p.1, p.2) a

  -- there is no memory
  pub stops_fed : {r : Result (ℕ × Bool) Stop} → IsErrAnd r (λ y. y ≡ Memory) → StopsIn rs d piece → Stays d e
      → IsAnswer holds d rs old piece r e more new
  stops_fed is stops stays = same_stop is (record { limits = stays.limits; fed = stops })

  -- no more are used than there are
  pub few_used : {count : ℕ} (ends : Bool) → IsReady rs d (length piece)
      → IsAnswer holds d rs old piece (Ok (count, ends)) e more new → count ≤ length piece
  few_used {count = count} ends ready a = used_within holds piece count ends rs more d e old new ready.alive a.fed

  module _ {used : ℕ} (a : IsAnswer holds d rs old piece (Ok (used, false)) e more new) where
    -- the bytes that are left find room
    pub ready_left : IsReady rs d (length piece) → IsReady more e
        (length (take (length piece - used) (drop used piece)))
    ready_left ready = record {
      room = ∥∥₁_elim ready.alive (Prim.hlevel props) (λ s. let f = a.fed s.0 s.1 in
          omega (
            arith,
            ready.room,
            f.0,
            f.1,
            count_is s.0 rs d s.1,
            count_is (s.0 ++ take used piece) more e f.2,
            length-append s.0 (take used piece),
            length-take-le used piece f.0,
            ap (λ (l : List ℕ). length l) (take_rest piece used),
            length-drop used piece,
          ));
      alive = alive_left holds piece used rs more d e old new ready.alive a.fed;
    }

    -- one answer after another
    pub joined : {f : Engine} {last : List Row} {w : S} {answer : Result (ℕ × Bool) Stop}
        → IsAnswer holds e more new (take (length piece - used) (drop used piece)) answer f last w
        → IsAnswer holds d rs old piece (further used answer) f last w
    joined {f = f} {last = last} {w = w} {answer = answer} b = record {
      limits = b.limits ∙ a.limits;
      fed = λ bs s.
          let x = a.fed bs s in
          let part = take (length piece - used) (drop used piece) in
          shifted holds _ _ d.limits d.start bs piece (bs ++ take used piece) part used last f w x.3
          (omega (arith, length-append bs (take used piece), length-take-le used piece x.0))
          (λ u few. (one_within piece used u x.0 few, one_front bs piece used u)) answer
          (subst (λ (q : Allowance × ℕ). IsFed holds (holds new (notes_at x.2)) q.0 q.1
          (bs ++ take used piece) part answer last f w)
          (λ i. (a.limits i, x.1 i)) (b.fed (bs ++ take used piece) x.2));
    }

  -- no blob ends with no bytes
  zero_fed : (t : ℕ × Bool) → t.0 ≤ 0 → IsAnswer holds d rs old piece (Ok t) e more new
      → IsAnswer holds d rs old piece (Ok (0, false)) e more new
  zero_fed (n, false) z a = let none : n ≡ 0 = omega (arith, z) in
      subst (λ k. IsAnswer holds d rs old piece (Ok (k, false)) e more new) none a
  zero_fed (n, true) z a = record {
    limits = a.limits;
    fed = λ bs s. absurd (let some = (a.fed bs s).0.some in omega (arith, some, z));
  }

  module _ {taken : ℕ × Bool} (zero : taken.0 ≤ 0) (a : IsAnswer holds d rs old piece (Ok taken) e more new) where
    pub ready_still : IsReady rs d (length piece) → IsReady more e (length piece)
    ready_still ready =
        subst (λ l. IsReady more e (length l)) (take_rest piece 0) (ready_left (zero_fed taken zero a) ready)

    pub answer_next : {f : Engine} {last : List Row} {w : S} {answer : Result (ℕ × Bool) Stop}
        → IsAnswer holds e more new piece answer f last w → IsAnswer holds d rs old piece answer f last w
    answer_next {f = f} {last = last} {w = w} {answer = answer} b =
        subst (λ x. IsAnswer holds d rs old piece x f last w) (further_none answer)
        (joined (zero_fed taken zero a) (subst (λ l. IsAnswer holds e more new l answer f last w)
        (sym (take_rest piece 0)) b))

-- many items were taken, or there is no memory for one
module _ {E S : Type 0} {holds : S → Notes → Type 0} {d e : Engine} {rs more : List Row} {old : S}
    {piece : List ℕ} where
  pub many_fed : {used : ℕ} → TakesMany {E = E} rs d piece (Ok used) more e
      → IsAnswer holds d rs old piece (Ok (used, false)) e more old
  many_fed t =
      led_fed t.within (λ bs s. let f = t.led bs s in (f.0, λ known. subst (holds old) (sym f.1) known)) t.stays

  pub many_stopped : {why : E} {r : Result (ℕ × Bool) Stop} → IsErrAnd r (λ y. y ≡ Memory)
      → TakesMany rs d piece (Err why) more e → IsAnswer holds d rs old piece r e more old
  many_stopped is t = stops_fed is t.memory t.stays
