-- What an output and its devices are left like, and that any bytes are shown by one text.
use Rattle.std.proofs.Common.{◌∷◌, append_assoc}
use Rattle.std.proofs.KnownBytes.{Consumes-trans}
use Rattle.std.specs.Prelude.{OnOk}
use Rattle.twkb_io.specs.declared.TheConstants.{MAX_BYTES}
use Rattle.twkb_io.specs.declared.output.OutFault.TheVariants as out
use Rattle.twkb_io.specs.Outputs.{is_device}
use Rattle.twkb_io.specs.Taps.{has_unflushed}
use Rattle.twkb_grammar.specs.Items.{Stream}
use Rattle.twkb_convert.specs.Listings.{TellsSpans}
use Rattle.twkb_convert.specs.Listed.{Misses, RefusesBlob, Used, is_read, ExplainsListingCause}
use Rattle.twkb_convert.specs.Causes.{cause_of_output, after_reads, is_write}
use Rattle.twkb_convert.specs.Outputs.{UnlessRefused, Flushes, Leaves, reported}
use Rattle.twkb_convert.specs.declared.report.Cause.TheVariants as cause
use Rattle.twkb_convert.proofs.Prelude.{◌≡◌, ◌≢◌, ◌+◌, ◌<◌, ℕ, false, List, [], ◌++◌, Option, Some, None, Err, IfSome}
use Rattle.twkb_convert.proofs.Prelude.{length, ap, arith, refl, inl, inr, length-append, Consumes, OutFault}
use Rattle.twkb_convert.proofs.Prelude.{Allowance, BlobReason, StreamFault, reason_of, Located, LocatedStream}
use Rattle.twkb_convert.proofs.Prelude.{geometries_of, listing_text, Layout, IsDeviceCause, Cause, ◌∙◌, ◌⊎◌, Bool}
use Rattle.twkb_convert.proofs.Prelude.{true, Result, Ok, sym, subst, append-nil, count_failure, Refused, Sent, Took}
use Rattle.twkb_convert.proofs.Prelude.{is_spent, output_tap, sent_join, Output, ConvertFault, Report, IfErr, IfOk}
use Rattle.twkb_convert.proofs.Prelude.{flat_map-append, BeginsWith, Tree, IsAllowance, AreBytes, Blob, FirstFault}
use Rattle.twkb_convert.proofs.Prelude.{Reason, spans_of_blob, Span, span_lines, ShowTo, lines_text}
use Rattle.twkb_grammar.proofs.Parts.{one_blob_lem, peel}
use Rattle.twkb_grammar.proofs.OneFault.{no_fault}
use Rattle.twkb_grammar.proofs.NotedSpans.{one_list}
use Rattle.twkb_grammar.proofs.Streams.{blob_long, stream_or_fault}

-- ==== Blobs with their spans, one after another.

-- located blobs without their spans are a stream
pub located-stream : (l : Allowance) (offset : ℕ) (bytes : List ℕ) (bs : List Located)
    → LocatedStream l offset bytes bs → Stream l bytes (geometries_of bs)
located-stream l offset bytes [] s = s
located-stream l offset bytes (b ∷ bs) s = (s.0, s.1, s.2, s.3.blob, located-stream l (offset + length s.0) s.1 bs s.4)

-- one blob is a stream
pub located-one : (l : Allowance) (offset : ℕ) (bytes : List ℕ) (b : Located)
    → TellsSpans l offset bytes b → LocatedStream l offset bytes (b ∷ [])
located-one l offset bytes b tells = (bytes, [], sym (append-nil bytes), tells, refl)

-- two streams, one after the other, are a stream
pub located-append : (l : Allowance) (offset : ℕ) (xs ys : List ℕ) (bs cs : List Located)
    → LocatedStream l offset xs bs → LocatedStream l (offset + length xs) ys cs
    → LocatedStream l offset (xs ++ ys) (bs ++ cs)
located-append l offset xs ys [] cs s t =
    subst (λ zs. LocatedStream l offset (zs ++ ys) cs) (sym s)
    (subst (λ n. LocatedStream l n ys cs) (let none : offset + length xs ≡ offset = omega
    (arith, ap length s) in none) t)
located-append l offset xs ys (b ∷ bs) cs s t =
    let place : offset + length xs ≡ offset + length s.0 + length s.1 = omega
    (arith, ap length s.2, length-append s.0 s.1) in (
      s.0,
      s.1 ++ ys,
      ap (λ zs. zs ++ ys) s.2 ∙ append_assoc s.0 s.1 ys,
      s.3,
      located-append l (offset + length s.0) s.1 ys bs cs s.4 (subst (λ n. LocatedStream l n ys cs) place t),
    )

-- ==== What a cause says of the text that was sent, and of the devices.

-- what a cause says after blobs with these bytes, if no further text was made
module _ (layout : Layout) (l : Allowance) (old mid told : Option (List ℕ)) (middle : ℕ)
    (bytes : List ℕ)
    (bs : List Located) (blobs : LocatedStream l 0 bytes bs) (used : Used old 0 bytes mid middle)
  where
    long : (known left : Option (List ℕ)) → Consumes known left bytes
        → IfSome left (λ rest. MAX_BYTES < middle + length rest) → IfSome known (λ all. MAX_BYTES < length all)
    long None left c far = tt
    long (Some all) None c far = absurd c
    long (Some all) (Some rest) c far = omega (arith, far, used.counted, ap length c, length-append bytes rest)

    refused : (known left : Option (List ℕ)) (offset : ℕ) (why : BlobReason)
        → Consumes known left bytes → IfSome left (λ rest. RefusesBlob l rest middle offset why)
        → IfSome known (λ all. StreamFault l all (geometries_of bs) offset (reason_of why))
    refused None left offset why c refuses = tt
    refused (Some all) None offset why c refuses = absurd c
    refused (Some all) (Some rest) offset why c refuses = record {
      front = bytes;
      rest = rest;
      within = refuses.within;
      whole = c;
      blobs = located-stream l 0 bytes bs blobs;
      first = refuses.first;
      place = omega (arith, refuses.place, used.counted);
    }

    pub explained : (why : Cause) → Misses l mid middle told why
        → ExplainsListingCause geometries_of (listing_text layout) l old told bytes why bs [] []
    explained cause.Memory misses = (refl, refl)
    explained cause.ReadDevice misses = (
      refl,
      refl,
      record {
        cut = misses.cut;
        consumed = Consumes-trans old mid told bytes misses.cut used.consumed misses.consumed;
        cut_off = misses.cut_off;
      },
    )
    explained cause.TooLong misses = inl (long old mid used.consumed misses)
    explained (cause.Blob offset why) misses = (
      refl,
      refl,
      refused old mid offset why used.consumed
          misses,
    )
    explained _ misses = absurd misses

-- no device but the reader's is a cause if no text was made
pub told_missed : (l : Allowance) (old told : Option (List ℕ)) (before : ℕ) (why : Cause)
    → Misses l old before told why → (is_write {A = Unit {0}} (Err why) ≡ false)
    × IsDeviceCause (is_read why) (is_write {A = Unit {0}} (Err why)) why
told_missed l old told before cause.ReadDevice misses = (refl, refl)
told_missed l old told before cause.WriteDevice misses = absurd misses
told_missed l old told before cause.TooManyRecords misses = absurd misses
told_missed l old told before (cause.Row number reason) misses = absurd misses
told_missed l old told before _ misses = (refl, (λ e. cc e, λ e. cc e))

-- what the cause of a refused put says
pub put_explained : (layout : Layout) (l : Allowance) (old told : Option (List ℕ)) (bytes : List ℕ)
    (f : OutFault) (whole later : List Located) (left : List ℕ)
    → (f ≡ out.TooLong → MAX_BYTES < length (listing_text layout (whole ++ later))) → f ≢ out.Spent
    → ExplainsListingCause geometries_of (listing_text layout) l old told bytes (cause_of_output f) whole later left
put_explained layout l old told bytes out.TooLong whole later left long unspent = inr (long refl)
put_explained layout l old told bytes out.Spent whole later left long unspent = absurd (unspent refl)
put_explained layout l old told bytes _ whole later left long unspent = tt

pub told_put : (f : OutFault)
    → IsDeviceCause false (is_write {A = Unit {0}} (Err (cause_of_output f))) (cause_of_output f)
told_put out.TooLong = (λ e. cc e, λ e. cc e)
told_put out.Spent = (λ e. cc e, λ e. cc e)
told_put _ = refl

-- nothing is said of an output that refused a put
pub put_refused : (A : Type 0) (f : OutFault) (Fact : Type 0) → UnlessRefused {T = A} (Err (cause_of_output f)) Fact
put_refused A out.TooLong Fact no_write no_length = absurd (no_length refl)
put_refused A out.Spent Fact no_write no_length = absurd (no_length refl)
put_refused A _ Fact no_write no_length = absurd (no_write refl)

-- ==== What an output is left like by an answer, before and after the flush.

-- ---- before the flush

always : {A : Type 0} (answer : Result A Cause) (P : Type 0) → P → UnlessRefused answer P
always (Ok done) P p = p
always (Err why) P p = λ no_write no_length. p

write_refused : (A : Type 0) (f : OutFault) → is_write {A = A} (Err (cause_of_output f)) ≡ is_device f
write_refused A out.Write = refl
write_refused A _ = refl

-- no call was refused
pub leaves_took : {A W : Type 0} {contents : W → Option (List ℕ)} {old new : Output W}
    {bytes : List ℕ} (answer : Result A Cause) → Took contents old bytes new → is_spent old ≡ false
    → is_write answer ≡ false → Leaves contents old bytes new answer
leaves_took {new = new} answer took fresh quiet = record {
  sends = took.sends;
  failures = rw quiet took.failures;
  quiet = λ still. took.failures;
  unspent = always answer (is_spent new ≡ false) (took.spent ∙ fresh);
}

-- a put was refused
pub leaves_refused : {A W : Type 0} {contents : W → Option (List ℕ)} {old new : Output W}
    {bytes : List ℕ} {f : OutFault} → Refused contents old bytes f new
    → Leaves {A = A} contents old bytes new (Err (cause_of_output f))
leaves_refused {A = A} {new = new} {f = f} refused = record {
  sends = refused.sends;
  failures = rw (write_refused A f) refused.failures;
  quiet = λ fresh. absurd (cc (fresh, refused.spent));
  unspent = put_refused A f (is_spent new ≡ false);
}

-- ---- after the flush

unless : {A : Type 0} (answer : Result A Cause) (P Q : Type 0) → (P → Q) → UnlessRefused answer P
    → UnlessRefused answer Q
unless (Ok done) P Q more p = more p
unless (Err why) P Q more p = λ no_write no_length. more (p no_write no_length)

-- nothing is added to what was sent
sent_with : {W : Type 0} {contents : W → Option (List ℕ)} {old mid new : Output W} {bytes : List ℕ}
    → Sent contents old bytes mid → Sent contents mid [] new → Sent contents old bytes new
sent_with {contents = contents} {old = old} {mid = mid} {new = new} {bytes = bytes} first second =
    subst (λ b. Sent contents old b new) (append-nil bytes)
    (sent_join contents old mid new bytes [] first second)

module _ {A W : Type 0} {contents : W → Option (List ℕ)} {old mid new : Output W} {bytes : List ℕ}
    {answer last : Result A Cause} where
  -- the answer stays, unless the flush failed
  pub leaves_last : Leaves contents old bytes mid answer → Flushes contents mid answer new last
      → Leaves contents old bytes new last × ((last ≡ answer) ⊎ (last ≡ Err cause.WriteDevice))
  leaves_last s (inl (took, flushed, is)) = (
    subst (λ r. Leaves contents old bytes new r) (sym is) (record {
      sends = sent_with s.sends took.sends;
      failures = took.failures ∙ s.failures;
      quiet = λ fresh. took.failures ∙ s.quiet (sym took.spent ∙ fresh);
      unspent = unless answer (is_spent mid ≡ false) (is_spent new ≡ false) (λ e. took.spent ∙ e) s.unspent;
    }),
    inl is,
  )
  leaves_last s (inr (inl (spent, same, is))) = (
    subst (λ r. Leaves contents old bytes new r) (sym is)
        (subst (λ o. Leaves contents old bytes o answer) (sym same) s),
    inl is,
  )
  leaves_last s (inr (inr (fresh, refused, is))) = (
    subst (λ r. Leaves contents old bytes new r) (sym is) (record {
      sends = sent_with s.sends refused.sends;
      failures = refused.failures ∙ ap (count_failure true) (s.quiet fresh);
      quiet = λ still. absurd (cc (still, refused.spent));
      unspent = λ no_write no_length. absurd (no_write refl);
    }),
    inr is,
  )

-- all is flushed, unless the output refused a call
pub flushed_last : {A W : Type 0} {contents : W → Option (List ℕ)} {mid new : Output W}
    {answer last : Result A Cause} → Flushes contents mid answer new last
    → UnlessRefused answer (is_spent mid ≡ false)
    → UnlessRefused last (has_unflushed (output_tap new).now ≡ false)
flushed_last {answer = answer} (inl (took, flushed, is)) unspent = rw is (always answer _ flushed)
flushed_last {answer = answer} (inr (inl (spent, same, is))) unspent =
    rw is (unless answer _ _ (λ e. absurd (cc (e, spent))) unspent)
flushed_last (inr (inr (fresh, refused, is))) unspent = rw is
    (λ no_write no_length. absurd (no_write refl))

-- what holds if all was sent also holds if all was sent and flushed
pub kept_last : {A W : Type 0} {contents : W → Option (List ℕ)} {mid new : Output W}
    {answer last : Result A Cause} (done : A) (P : Type 0) → Flushes contents mid answer new last
    → OnOk answer P → last ≡ Ok done → P
kept_last done P (inl (took, flushed, is)) p ok = subst (λ r. OnOk r P) (sym is ∙ ok) p
kept_last done P (inr (inl (spent, same, is))) p ok = subst (λ r. OnOk r P) (sym is ∙ ok) p
kept_last done P (inr (inr (fresh, refused, is))) p ok = absurd (cc (sym ok ∙ is))

-- all was sent and flushed if that is the answer after the reads
pub ok_before : {A : Type 0} (failed : Bool) (answer : Result A Cause) (done : A)
    → Ok done ≡ after_reads failed answer → answer ≡ Ok done
ok_before true (Ok first) done is = cc is
ok_before false (Ok first) done is = sym is
ok_before failed (Err why) done is = cc is

-- a fact that holds unless the output refused a call, once it is known whether a read failed
pub flushed_after : {A : Type 0} (failed : Bool) (answer : Result A Cause) (why : Cause) (P : Type 0)
    → Err why ≡ after_reads failed answer → UnlessRefused answer P → why ≢ cause.WriteDevice
    → why ≢ cause.ReadDevice → why ≢ cause.TooLong → P
flushed_after failed (Ok done) why P is p no_write no_read no_length = p
flushed_after true (Err first) why P is p no_write no_read no_length = p
    (λ e. no_write (cc (is ∙ ap (λ k. after_reads true (Err k)) e)))
    (λ e. no_read (cc (is ∙ ap (λ k. after_reads true (Err k)) e)))
flushed_after false (Err first) why P is p no_write no_read no_length = p
    (λ e. no_write (cc (is ∙ ap (λ k. after_reads false (Err k)) e)))
    (λ e. no_length (cc (is ∙ ap (λ k. after_reads false (Err k)) e)))

write_stays : (failed : Bool) → after_reads {A = Unit {0}} failed (Err cause.WriteDevice) ≡ Err cause.WriteDevice
write_stays true = refl
write_stays false = refl

-- a flush of an answer after the reads is one of the answer before them
pub flushes_before : {W : Type 0} {contents : W → Option (List ℕ)} {mid new : Output W}
    {last : Result (Unit {0}) Cause} (failed : Bool) (sending : Result (Unit {0}) Cause)
    → Flushes contents mid (after_reads failed sending) new last
    → (answer : Result (Unit {0}) Cause) × Flushes contents mid sending new answer × (last ≡ after_reads failed answer)
flushes_before failed sending (inl (took, flushed, is)) = (sending, inl (took, flushed, refl), is)
flushes_before failed sending
    (inr (inl (spent, same, is))) = (sending, inr (inl (spent, same, refl)), is)
flushes_before failed sending (inr (inr (fresh, refused, is))) =
    (Err cause.WriteDevice, inr (inr (fresh, refused, refl)), is ∙ sym (write_stays failed))

-- ---- what is reported

-- a report is that of an answer that is not a stop
pub reports_ok : (geometries bytes taken : ℕ) (report : Report) (answer : Result (Unit {0}) Cause)
    → Ok report ≡ reported geometries bytes taken answer
    → (answer ≡ Ok tt) × (report ≡ record { geometries = geometries; bytes = bytes; taken = taken })
reports_ok geometries bytes taken report (Ok done) is = (refl, cc is)
reports_ok geometries bytes taken report (Err why) is = absurd (cc is)

-- a fault is that of a stop, with its cause
pub reports_err : (geometries bytes taken : ℕ) (fault : ConvertFault) (answer : Result (Unit {0}) Cause)
    → Err fault ≡ reported geometries bytes taken answer
    → (answer ≡ Err fault.cause)
    × (fault ≡ record { done = geometries; sent = bytes; taken = taken; cause = fault.cause })
reports_err geometries bytes taken fault (Ok done) is = absurd (cc is)
reports_err geometries bytes taken fault (Err why) is =
    let same : fault ≡ record { done = geometries; sent = bytes; taken = taken; cause = why } = cc is in
    let cause_is : fault.cause ≡ why = ap (λ (f : ConvertFault). f.cause) same in (
      ap (λ w. Err w) (sym cause_is),
      same ∙ ap (λ w. record { done = geometries; sent = bytes; taken = taken; cause = w }) (sym cause_is),
    )

-- a fact about a report, from what holds if there is one
pub when_ok : {T E : Type 0} (r : Result T E) (P : T → Type 0) → ((t : T) → r ≡ Ok t → P t) → IfOk r P
when_ok (Ok t) P h = h t refl
when_ok (Err e) P h = tt

-- a fact about a fault, from what holds if there is one
pub when_err : {T E : Type 0} (r : Result T E) (P : E → Type 0) → ((e : E) → r ≡ Err e → P e) → IfErr r P
when_err (Ok t) P h = tt
when_err (Err e) P h = h e refl

-- ==== Any bytes are shown by one text.

-- ---- one list of blobs

one_spans : (l : Allowance) (offset : ℕ) (xs ys : List ℕ) (g h : Tree) (a : Blob l xs g)
    (b : Blob l ys h) → xs ≡ ys → g ≡ h → spans_of_blob offset a ≡ spans_of_blob offset b
one_spans l offset xs ys g h a b same is =
    subst (λ (k : Tree). (c : Blob l ys k) → spans_of_blob offset a ≡ spans_of_blob offset c) is
    (subst (λ (zs : List ℕ). (c : Blob l zs g) → spans_of_blob offset a ≡ spans_of_blob offset c)
    same (λ c. one_list l xs g offset a c)) b

both : (b c : Located) → b.geometry ≡ c.geometry → b.spans ≡ c.spans → b ≡ c
both b c geometry spans =
    ap (λ (g : Tree). (let changed : Located = record { geometry = g; spans = b.spans } in changed)) geometry
    ∙ ap (λ (ss : List Span). (let changed : Located = record { geometry = c.geometry; spans = ss } in changed)) spans

one_located : (l : Allowance) (offset : ℕ) (xs ys : List ℕ) (b c : Located)
    → TellsSpans l offset xs b → TellsSpans l offset ys c → xs ≡ ys
    → b.geometry ≡ c.geometry → b ≡ c
one_located l offset xs ys b c s t same is = both b c is
    (s.told ∙ one_spans l offset xs ys b.geometry c.geometry s.blob t.blob same is ∙ sym t.told)

-- these bytes begin with no blob
abbrev NoBlob : Allowance → List ℕ → Type 0
NoBlob l bytes = (g : Tree) (front rest : List ℕ) → bytes ≡ front ++ rest → Blob l front g → ⊥

nothing_no_blob : (l : Allowance) → NoBlob l []
nothing_no_blob l g front rest e b = omega (arith, blob_long l front g b, ap length e, length-append front rest)

-- bytes with a first fault begin with no blob
pub fault_no_blob : (l : Allowance) (bytes : List ℕ) (within : ℕ) (reason : Reason)
    → FirstFault l bytes within reason → NoBlob l bytes
fault_no_blob l bytes within reason f g front rest cut blob =
    no_fault l bytes rest g within reason (record { front = front; whole = cut; blob = blob })
    f.fault

-- the list begins with these
abbrev pub Begins : {A : Type 0} → List A → List A → Type 0
Begins {A} xs ys = (more : List A) × (ys ≡ xs ++ more)

-- the blobs with which some bytes begin are the first of all blobs with which they begin
pub located_first : (l : Allowance) (offset : ℕ) (a b x y : List ℕ) (bs cs : List Located)
    → LocatedStream l offset a bs → LocatedStream l offset b cs → NoBlob l y → a ++ x ≡ b ++ y
    → Begins bs cs
located_first l offset a b x y [] cs s t none e = (cs, refl)
located_first l offset a b x y (p ∷ bs) [] s t none e =
    let whole : y ≡ s.0 ++ (s.1 ++ x) = ap (λ k. k ++ y) (sym t)
    ∙ (sym e ∙ (ap (λ k. k ++ x) s.2 ∙ append_assoc s.0 s.1 x)) in
    absurd (none p.geometry s.0 (s.1 ++ x) whole s.3.blob)
located_first l offset a b x y (p ∷ bs) (q ∷ cs) s t none e =
    let whole : s.0 ++ (s.1 ++ x) ≡ t.0 ++ (t.1 ++ y) = sym (append_assoc s.0 s.1 x)
    ∙ (ap (λ k. k ++ x) (sym s.2) ∙ (e ∙ (ap (λ k. k ++ y) t.2 ∙ append_assoc t.0 t.1 y))) in
    let one = one_blob_lem l s.0 t.0 (s.1 ++ x) (t.1 ++ y) p.geometry q.geometry s.3.blob t.3.blob whole in
    let later = subst (λ n. LocatedStream l n t.1 cs) (ap (λ (k : List ℕ). offset + length k) (sym one.1)) t.4 in
    let rest = located_first l (offset + length s.0) s.1 t.1 x y bs cs s.4 later none
    (peel s.0 t.0 (s.1 ++ x) (t.1 ++ y) one.1 whole) in (
      rest.0,
      ap (λ k. q ∷ k) rest.1 ∙ ap (λ k. k ∷ (bs ++ rest.0))
          (sym (one_located l offset s.0 t.0 p q s.3 t.3 one.1 one.0)),
    )

-- lists that begin with each other are equal
pub each_other : {A : Type 0} (xs ys : List A) → Begins xs ys → Begins ys xs → xs ≡ ys
each_other xs ys ([], e) second = sym (e ∙ append-nil xs)
each_other xs ys (p ∷ more, e) second = absurd (omega (
  arith,
  ap length e,
  ap length second.1,
  length-append xs (p ∷ more),
  length-append ys second.0,
))

pub one_located_stream : (l : Allowance) (offset : ℕ) (bytes : List ℕ) (bs cs : List Located)
    → LocatedStream l offset bytes bs → LocatedStream l offset bytes cs → bs ≡ cs
one_located_stream l offset bytes bs cs s t =
    each_other bs cs (located_first l offset bytes bytes [] [] bs cs s t (nothing_no_blob l) refl)
    (located_first l offset bytes bytes [] [] cs bs t s (nothing_no_blob l) refl)

pub some_located_stream : (l : Allowance) (offset : ℕ) (bytes : List ℕ) (gs : List Tree)
    → Stream l bytes gs → (bs : List Located) × LocatedStream l offset bytes bs
    × (geometries_of bs ≡ gs)
some_located_stream l offset bytes [] s = ([], s, refl)
some_located_stream l offset bytes (g ∷ gs) s =
    let rest = some_located_stream l (offset + length s.0) s.1 gs s.4 in
    let here : Located = record { geometry = g; spans = spans_of_blob offset s.3 } in
    (here ∷ rest.0, (s.0, s.1, s.2, record { blob = s.3; told = refl }, rest.1), ap (λ hs. g ∷ hs) rest.2)

-- ---- one text

-- The text is that of all blobs with which the bytes begin.
record ShowsAll (l : Allowance) (bytes text : List ℕ) : Type 0 where
  front : List ℕ
  rest : List ℕ
  whole : bytes ≡ front ++ rest
  none : NoBlob l rest
  found : List Located
  blobs : LocatedStream l 0 front found
  lines : text ≡ lines_text found

-- blobs of the same geometries have the same bytes
pub one_front : (l : Allowance) (a b x y : List ℕ) (gs : List Tree) → Stream l a gs → Stream l b gs
    → a ++ x ≡ b ++ y → a ≡ b
one_front l a b x y [] s t e = s ∙ sym t
one_front l a b x y (g ∷ gs) s t e =
    let whole : s.0 ++ (s.1 ++ x) ≡ t.0 ++ (t.1 ++ y) = sym (append_assoc s.0 s.1 x)
    ∙ (ap (λ k. k ++ x) (sym s.2) ∙ (e ∙ (ap (λ k. k ++ y) t.2 ∙ append_assoc t.0 t.1 y))) in
    let first = (one_blob_lem l s.0 t.0 (s.1 ++ x) (t.1 ++ y) g g s.3 t.3 whole).1 in
    let rest = one_front l s.1 t.1 x y gs s.4 t.4 (peel s.0 t.0 (s.1 ++ x) (t.1 ++ y) first whole) in
    s.2 ∙ (ap (λ k. k ++ s.1) first ∙ (ap (λ k. t.0 ++ k) rest ∙ sym t.2))

shows_all : (l : Allowance) (bytes text : List ℕ) → ShowTo l bytes text → ShowsAll l bytes text
shows_all l bytes text (inl (bs, blobs, e)) =
    record {
      front = bytes;
      rest = [];
      whole = sym (append-nil bytes);
      none = nothing_no_blob l;
      found = bs;
      blobs = blobs;
      lines = e;
    }
shows_all l bytes text (inr (offset, reason, bs, f, (front, rest, whole, blobs), e)) = record {
  front = f.front;
  rest = f.rest;
  whole = f.whole;
  none = fault_no_blob l f.rest f.within reason f.first;
  found = bs;
  blobs = subst (λ k. LocatedStream l 0 k bs) (one_front l front f.front rest f.rest
      (geometries_of bs) (located-stream l 0 front bs blobs) f.blobs (sym whole ∙ f.whole)) blobs;
  lines = e;
}

-- blobs with which the bytes begin are the first of those that are shown
begins_all : (l : Allowance) (all bytes rest text : List ℕ) (bs : List Located)
    → all ≡ bytes ++ rest → LocatedStream l 0 bytes bs → (s : ShowsAll l all text)
    → Begins bs s.found
begins_all l all bytes rest text bs whole blobs s = located_first l 0 bytes s.front rest s.rest bs
    s.found blobs s.blobs s.none (sym whole ∙ s.whole)

pub one_shown : (l : Allowance) (bytes text other : List ℕ) → ShowTo l bytes text → ShowTo l bytes other → text ≡ other
one_shown l bytes text other first second =
    let s = shows_all l bytes text first in
    let t = shows_all l bytes other second in
    let same : s.found ≡ t.found =
    each_other s.found t.found (begins_all l bytes s.front s.rest other s.found s.whole s.blobs t)
    (begins_all l bytes t.front t.rest text t.found t.whole t.blobs s) in
    s.lines ∙ ap lines_text same ∙ sym t.lines

some_of : (l : Allowance) (bytes : List ℕ) → ((gs : List Tree) × Stream l bytes gs)
    ⊎ ((gs : List Tree) × (offset : ℕ) × (reason : Reason) × StreamFault l bytes gs offset reason)
    → (text : List ℕ) × ShowTo l bytes text
some_of l bytes (inl (gs, s)) = let b = some_located_stream l 0 bytes gs s in (lines_text b.0, inl (b.0, b.1, refl))
some_of l bytes (inr (gs, offset, reason, f)) =
    let b = some_located_stream l 0 f.front gs f.blobs in
    let fault : StreamFault l bytes (geometries_of b.0) offset reason = record {
      front = f.front;
      rest = f.rest;
      within = f.within;
      whole = f.whole;
      blobs = subst (λ hs. Stream l f.front hs) (sym b.2) f.blobs;
      first = f.first;
      place = f.place;
    } in (lines_text b.0, inr (offset, reason, b.0, fault, (f.front, f.rest, f.whole, b.1), refl))

pub some_shown : (l : Allowance) (bytes : List ℕ) → IsAllowance l → AreBytes bytes → (text : List ℕ)
    × ShowTo l bytes text
some_shown l bytes cap are = some_of l bytes (stream_or_fault l bytes cap are)

pub show_front : (l : Allowance) (all bytes text written : List ℕ) (bs : List Located)
    → BeginsWith (Some all) bytes → LocatedStream l 0 bytes bs
    → BeginsWith (Some (lines_text bs)) written
    → ShowTo l all text → BeginsWith (Some text) written
show_front l all bytes text written bs (rest, whole) blobs (left, cut) shows =
    let s = shows_all l all text shows in
    let (others, first) = begins_all l all bytes rest text bs whole blobs s in (
      left ++ lines_text others,
      s.lines ∙ ap lines_text first ∙ flat_map-append (λ (b : Located). span_lines b.spans) bs
          others ∙ ap (λ k. k ++ lines_text others) cut
          ∙ append_assoc written left (lines_text others),
    )
