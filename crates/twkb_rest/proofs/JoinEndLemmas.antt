-- The flush after joined records, and what the caller learns.
use lib.Dec.{eqb}
use Rattle.std.specs.Prelude.{IfErr, IfOk, not, ◌≢◌}
use Rattle.std.proofs.lemmas.Bool.{eqb-false, eqb-true}
use Rattle.std.proofs.lemmas.List.{append-nil}
use Rattle.twkb_io.specs.Taps.{has_unflushed}
use Rattle.twkb_convert.proofs.Prelude.{◌≡◌, ◌∙◌, ℕ, Bool, true, false, List, [], ◌∷◌, ◌++◌, Option, Some, None}
use Rattle.twkb_convert.proofs.Prelude.{Result, Ok, Err, IfSome, length, ap, arith, refl, sym, subst, inl, inr}
use Rattle.twkb_convert.proofs.Prelude.{Appends, IsAtEnd, Ghosts, BeginsWith, sent_of, Sent, Output, Tap, Changes}
use Rattle.twkb_convert.proofs.Prelude.{Allowance, Reader, count_failure, device_of, failures_of, sent_join}
use Rattle.twkb_convert.proofs.Prelude.{is_spent, output_failures, output_tap}
use Rattle.twkb_convert.specs.Listed.{limits_of, reader_failures, reader_tap, rest_of, told_of}
use Rattle.twkb_convert.specs.Parts.{TakesBlobs}
use Rattle.twkb_convert.specs.declared.report.Cause.TheVariants as cause
use Rattle.twkb_convert.specs.declared.report.Report.{Report}
use Rattle.twkb_convert.proofs.FlushLemmas.{when_err, when_ok}
use Rattle.twkb_rest.specs.JoinCauses.{IsJoinDevice, after_flush, after_rest, cause_after, is_failed_read}
use Rattle.twkb_rest.specs.JoinCauses.{is_failed_write}
use Rattle.twkb_rest.specs.JoinResults.{ExplainsAsColumn, ExplainsJoin, IsFlushedRest, JoinedRest, Parts, StoppedRest}
use Rattle.twkb_rest.specs.Joins.{AreJoined, IsHeaded, Joined, blobs_of, joined_text}
use Rattle.twkb_rest.specs.JoinSending.{EndsJoin, FinishesJoin, Flushes, IsLeft, SendsJoined, UnlessRefused}
use Rattle.twkb_rest.specs.JoinSending.{join_reported}
use Rattle.twkb_rest.specs.declared.fault.UnpackCause.TheVariants.{Line, Stream}
use Rattle.twkb_rest.specs.declared.join_fault.JoinCause.{JoinCause}
use Rattle.twkb_rest.specs.declared.join_fault.JoinCause.TheVariants.{Column, NoRecord, Rest, RestDevice}
use Rattle.twkb_rest.specs.declared.join_fault.JoinFault.{JoinFault}
use Rattle.twkb_rest.proofs.EndLemmas.{known_length, taken_whole}

-- ==== The flush.

-- whether a call failed, given whether one before the flush and whether the flush did
abbrev failed_with : Bool → Bool → Bool
failed_with failed true = true
failed_with failed false = failed

sent_with : {W : Type 0} {contents : W → Option (List ℕ)} {old mid new : Output W} {bytes : List ℕ}
    → Sent contents old bytes mid → Sent contents mid [] new → Sent contents old bytes new
sent_with {contents = contents} {old = old} {mid = mid} {new = new} {bytes = bytes} first second =
    subst (λ b. Sent contents old b new) (append-nil bytes) (sent_join contents old mid new bytes [] first second)

left_last : {W : Type 0} {contents : W → Option (List ℕ)} {old mid new : Output W} {bytes : List ℕ}
    (failed again : Bool) → IsLeft contents old bytes mid failed → Flushes contents mid again new
    → IsLeft contents old bytes new (failed_with failed again)
left_last failed false left (inl (took, flushed)) = record {
  sends = sent_with left.sends took.sends;
  failures = took.failures ∙ left.failures;
  quiet = λ still. left.quiet (sym took.spent ∙ still);
}
left_last {contents = contents} {old = old} {bytes = bytes} failed false left (inr (spent, same)) =
    subst (λ o. IsLeft contents old bytes o failed) (sym same) left
left_last {old = old} failed true left (fresh, refused) = record {
  sends = sent_with left.sends refused.sends;
  failures = refused.failures ∙ ap (count_failure true) (left.failures
      ∙ ap (λ (b : Bool). count_failure b (output_failures old)) (left.quiet fresh));
  quiet = λ still. absurd (cc (still, refused.spent));
}

flushed_last : {W : Type 0} {contents : W → Option (List ℕ)} {mid new : Output W} → Flushes contents mid false new
    → is_spent mid ≡ false → has_unflushed (output_tap new).now ≡ false
flushed_last (inl (took, flushed)) fresh = flushed
flushed_last (inr (spent, same)) fresh = absurd (cc (fresh, spent))

unless : {A : Type 0} (answer : Result A JoinCause) (P Q : Type 0) → (P → Q) → UnlessRefused answer P
    → UnlessRefused answer Q
unless (Ok done) P Q more p = more p
unless (Err why) P Q more p = λ no_write no_length. more (p no_write no_length)

flushed_after : {A W : Type 0} (contents : W → Option (List ℕ)) (mid new : Output W) (answer : Result A JoinCause)
    (again : Bool) → Flushes contents mid again new → UnlessRefused answer (is_spent mid ≡ false)
    → UnlessRefused (after_flush again answer) (has_unflushed (output_tap new).now ≡ false)
flushed_after contents mid new answer true flushes fresh = λ no_write no_length. absurd (no_write refl)
flushed_after contents mid new answer false flushes fresh = unless answer _ _ (flushed_last flushes) fresh

writes_last : {A : Type 0} (answer : Result A JoinCause) (failed again : Bool) → is_failed_write answer ≡ failed
    → is_failed_write (after_flush again answer) ≡ failed_with failed again
writes_last answer failed true is = refl
writes_last answer failed false is = is

reads_last : {A : Type 0} (answer : Result A JoinCause) (failed again read_failed : Bool)
    → (failed ≡ false → is_failed_read answer ≡ read_failed) → failed_with failed again ≡ false
    → is_failed_read (after_flush again answer) ≡ read_failed
reads_last answer failed true read_failed reads quiet = absurd (cc quiet)
reads_last answer failed false read_failed reads quiet = reads quiet

-- ==== The reads of the rest.

ok_before : {A : Type 0} (failed : Bool) (answer : Result A JoinCause) (done : A)
    → Ok done ≡ after_rest failed answer → (failed ≡ false) × (answer ≡ Ok done)
ok_before true (Ok first) done is = cc is
ok_before false (Ok first) done is = (refl, sym is)
ok_before failed (Err why) done is = cc is

-- what the cause says of the devices, if it was not the end
devices_of : (why : JoinCause) (rest_failed : Bool) → IsJoinDevice (is_failed_read {A = Unit {0}} (Err why)) rest_failed
    (is_failed_write {A = Unit {0}} (Err why)) (cause_after rest_failed why)
devices_of (Column (Stream cause.WriteDevice)) true = refl
devices_of (Column (Stream cause.WriteDevice)) false = refl
devices_of (Column (Stream cause.ReadDevice)) true = refl
devices_of (Column (Stream cause.ReadDevice)) false = refl
devices_of (Column (Stream (cause.Row number reason))) true = refl
devices_of (Column (Stream (cause.Blob offset reason))) true = refl
devices_of (Column (Stream cause.Memory)) true = refl
devices_of (Column (Stream cause.TooLong)) true = refl
devices_of (Column (Stream cause.TooManyRecords)) true = refl
devices_of (Column (Line offset why)) true = refl
devices_of (NoRecord offset) true = refl
devices_of (Rest number why) true = refl
devices_of RestDevice true = refl
devices_of (Column (Stream (cause.Row number reason))) false = (λ i. cc i, λ i. cc i, λ i. cc i)
devices_of (Column (Stream (cause.Blob offset reason))) false = (λ i. cc i, λ i. cc i, λ i. cc i)
devices_of (Column (Stream cause.Memory)) false = (λ i. cc i, λ i. cc i, λ i. cc i)
devices_of (Column (Stream cause.TooLong)) false = (λ i. cc i, λ i. cc i, λ i. cc i)
devices_of (Column (Stream cause.TooManyRecords)) false = (λ i. cc i, λ i. cc i, λ i. cc i)
devices_of (Column (Line offset why)) false = (λ i. cc i, λ i. cc i, λ i. cc i)
devices_of (NoRecord offset) false = (λ i. cc i, λ i. cc i, λ i. cc i)
devices_of (Rest number why) false = (λ i. cc i, λ i. cc i, λ i. cc i)
devices_of RestDevice false = (λ i. cc i, λ i. cc i, λ i. cc i)

devices_as : (answer : Result (Unit {0}) JoinCause) (rest_failed : Bool) (why : JoinCause)
    → Err why ≡ after_rest rest_failed answer
    → IsJoinDevice (is_failed_read answer) rest_failed (is_failed_write answer) why
devices_as (Ok all) true why is = cc is
devices_as (Ok all) false why is = absurd (cc is)
devices_as (Err first) rest_failed why is =
    let same : cause_after rest_failed first ≡ why = cc is in
    subst (λ (k : JoinCause). IsJoinDevice (is_failed_read {A = Unit {0}} (Err first)) rest_failed
    (is_failed_write {A = Unit {0}} (Err first)) k) same (devices_of first rest_failed)

-- a failed write goes first
written : (a b rest_failed : Bool) (why : JoinCause) → IsJoinDevice a rest_failed true why
    → IsJoinDevice b rest_failed true why
written true true true why h = h
written true true false why h = h
written true false true why h = h
written true false false why h = h
written false true true why h = h
written false true false why h = h
written false false true why h = h
written false false false why h = h

devices_with : (a b rest_failed failed : Bool) (why : JoinCause) → (failed ≡ false → a ≡ b)
    → IsJoinDevice a rest_failed failed why → IsJoinDevice b rest_failed failed why
devices_with a b rest_failed true why same h = written a b rest_failed why h
devices_with a b rest_failed false why same h =
    subst (λ (c : Bool). IsJoinDevice c rest_failed false why) (same refl) h

-- what a cause explains, once it is known whether a read of the rest failed
explains_after : (d : ℕ) (name : List ℕ) (l : Allowance) (why : JoinCause) (rest_failed : Bool) (p : Parts)
    → ExplainsJoin d name l why p → (why ≡ RestDevice → ExplainsAsColumn d l (Stream cause.Memory) p)
    → ExplainsJoin d name l (cause_after rest_failed why) p
explains_after d name l (Column (Stream cause.WriteDevice)) true p e kept = e
explains_after d name l (Column (Stream cause.WriteDevice)) false p e kept = e
explains_after d name l (Column (Stream cause.ReadDevice)) true p e kept = e
explains_after d name l (Column (Stream cause.ReadDevice)) false p e kept = e
explains_after d name l (Column (Stream (cause.Row number reason))) true p e kept = absurd e
explains_after d name l (Column (Stream (cause.Blob offset reason))) true p e kept = inl e.0
explains_after d name l (Column (Stream cause.Memory)) true p e kept = inl e.0
explains_after d name l (Column (Stream cause.TooLong)) true p e kept = inr e
explains_after d name l (Column (Stream cause.TooManyRecords)) true p e kept = absurd e
explains_after d name l (Column (Line offset why)) true p e kept = inl e.0
explains_after d name l (NoRecord offset) true p e kept = inl (ap blobs_of e.0)
explains_after d name l (Rest number why) true p e kept = inl (ap blobs_of e.0)
explains_after d name l RestDevice true p e kept = e
explains_after d name l (Column (Stream (cause.Row number reason))) false p e kept = e
explains_after d name l (Column (Stream (cause.Blob offset reason))) false p e kept = e
explains_after d name l (Column (Stream cause.Memory)) false p e kept = e
explains_after d name l (Column (Stream cause.TooLong)) false p e kept = e
explains_after d name l (Column (Stream cause.TooManyRecords)) false p e kept = e
explains_after d name l (Column (Line offset why)) false p e kept = e
explains_after d name l (NoRecord offset) false p e kept = e
explains_after d name l (Rest number why) false p e kept = e
explains_after d name l RestDevice false p e kept = kept refl

-- ==== What is reported.

reports_ok : (blobs bytes taken : ℕ) (report : Report) (answer : Result (Unit {0}) JoinCause)
    → Ok report ≡ join_reported blobs bytes taken answer
    → (answer ≡ Ok tt) × (report ≡ record { geometries = blobs; bytes = bytes; taken = taken })
reports_ok blobs bytes taken report (Ok done) is = (refl, cc is)
reports_ok blobs bytes taken report (Err why) is = absurd (cc is)

reports_err : (blobs bytes taken : ℕ) (fault : JoinFault) (answer : Result (Unit {0}) JoinCause)
    → Err fault ≡ join_reported blobs bytes taken answer → (answer ≡ Err fault.cause)
    × (fault ≡ record { done = blobs; sent = bytes; taken = taken; cause = fault.cause })
reports_err blobs bytes taken fault (Ok done) is = absurd (cc is)
reports_err blobs bytes taken fault (Err why) is =
    let same : fault ≡ record { done = blobs; sent = bytes; taken = taken; cause = why } = cc is in
    let cause_is : fault.cause ≡ why = ap (λ (f : JoinFault). f.cause) same in (
      ap (λ w. Err w) (sym cause_is),
      same ∙ ap (λ w. record { done = blobs; sent = bytes; taken = taken; cause = w }) (sym cause_is),
    )

-- a count that was read twice
changes_by : (before after : ℕ) → Changes (not (eqb after before)) before after
changes_by before after = go (eqb after before) refl
  where
    go : (same : Bool) → eqb after before ≡ same → Changes (not same) before after
    go true is = eqb-true after before is
    go false is = λ e. eqb-false after before is e

pub changes_as : (before after first last : ℕ) → before ≡ first → after ≡ last
    → Changes (not (eqb after before)) first last
changes_as before after first last was is = subst (λ n. Changes (not (eqb after before)) first n) is
    (subst (λ n. Changes (not (eqb after before)) n after) was (changes_by before after))

-- ==== The result.

-- no text is left after that of all joined records
whole_text : (text_of : List Joined → List ℕ) (whole later : List Joined) (text left : List ℕ)
    → text_of (whole ++ later) ≡ text ++ left → later ≡ [] → left ≡ [] → text ≡ text_of whole
whole_text text_of whole later text left cut no_later none_left =
    sym (append-nil text) ∙ ap (λ l. text ++ l) (sym none_left) ∙ sym cut
    ∙ ap (λ js. text_of (whole ++ js)) no_later ∙ ap text_of (append-nil whole)

known_joined : (l : Allowance) (known : Option (List ℕ)) (bytes : List ℕ) (js : List Joined)
    → IfSome known (λ whole. whole ≡ bytes) → AreJoined l bytes js → IfSome known (λ whole. AreJoined l whole js)
known_joined l None bytes js all blobs = tt
known_joined l (Some whole) bytes js all blobs = subst (λ b. AreJoined l b js) (sym all) blobs

module _ {R Q W : Type 0} {read : Ghosts R} {d : ℕ} {name : List ℕ} {contents : W → Option (List ℕ)}
    {l : Allowance} {from to : Reader R read} {old mid new : Output W} {done taken : ℕ}
    {sending : Result (Unit {0}) JoinCause} {report : Result Report JoinFault} (remaining : R → Option (List ℕ))
    (rest_remaining : Q → Option (List ℕ)) (reader after : Tap R) (rest rest_after : Tap Q) (writer written_tap : Tap W)
    (rest_failed : Bool) (changes : Changes rest_failed (failures_of rest) (failures_of rest_after))
    (finishes : FinishesJoin contents mid done taken rest_failed sending new report)
    (sends : SendsJoined name d (rest_remaining (device_of rest)) contents from old to mid done taken sending)
    (limits : limits_of from ≡ l) (told : rest_of from ≡ remaining (device_of reader))
    (failures : reader_failures from ≡ failures_of reader)
    (borrowed : (output_tap old).now ≡ writer) (none : sent_of old ≡ 0)
    (ends : (reader_tap to).now ≡ after) (closes : (output_tap new).now ≡ written_tap)
    (later_told : told_of to ≡ remaining (device_of after)) where
  abbrev answer : Result (Unit {0}) JoinCause
  answer = after_flush finishes.failed sending

  abbrev parts : Parts
  parts = record {
    told = rest_of from;
    told_last = told_of to;
    rest_told = rest_remaining (device_of rest);
    bytes = sends.part.bytes;
    text = sends.text;
    header = sends.header;
    place = sends.place;
    whole = sends.part.whole;
    later = sends.part.later;
    here = sends.here;
    left = sends.part.left;
  }

  abbrev Ending : Result (Unit {0}) JoinCause → Type 0
  Ending a = EndsJoin name d (rest_remaining (device_of rest)) from to a parts

  ended : (again : Bool) → Ending (after_flush again sending)
  ended true = (tt, λ is. absurd (cc is))
  ended false = sends.ends

  left : IsLeft contents old sends.text new (failed_with sends.failed finishes.failed)
  left = left_last sends.failed finishes.failed sends.leaves finishes.flushes

  appended : (text : List ℕ) → Sent contents old text new
      → Appends (contents (device_of writer)) (contents (device_of written_tap)) text
  appended text sent = subst (λ t. Appends (contents (device_of t)) (contents (device_of written_tap)) text) borrowed
      (subst (λ t. Appends (contents (device_of (output_tap old).now)) (contents (device_of t)) text)
      closes sent.appends)

  reads_as : (failed : Bool) → reader_failures to ≡ count_failure failed (reader_failures from)
      → failures_of after ≡ count_failure failed (failures_of reader)
  reads_as failed reads = ap failures_of (sym ends) ∙ reads ∙ ap (count_failure failed) failures

  writes_as : failures_of written_tap ≡ count_failure (failed_with sends.failed finishes.failed) (failures_of writer)
  writes_as = ap failures_of (sym closes) ∙ left.failures
      ∙ ap (λ t. count_failure (failed_with sends.failed finishes.failed) (failures_of t)) borrowed

  writes : is_failed_write answer ≡ failed_with sends.failed finishes.failed
  writes = writes_last sending sends.failed finishes.failed sends.writes

  reads : failed_with sends.failed finishes.failed ≡ false → is_failed_read answer ≡ sends.read_failed
  reads = reads_last sending sends.failed finishes.failed sends.read_failed sends.reads

  told_blobs : (js : List Joined) → AreJoined (limits_of from) sends.part.bytes js → AreJoined l sends.part.bytes js
  told_blobs js blobs = subst (λ a. AreJoined a sends.part.bytes js) limits blobs

  taken_as : TakesBlobs (AreJoined l) sends.part.bytes sends.part.whole taken
  taken_as = subst (λ a. TakesBlobs (AreJoined a) sends.part.bytes sends.part.whole taken) limits sends.takes

  all_joined : (r : Report) → Ok r ≡ join_reported done (sent_of new) taken (after_rest rest_failed answer)
      → JoinedRest d name l remaining rest_remaining contents reader rest writer r after rest_after written_tap
  all_joined r is =
      let (ok, same) = reports_ok done (sent_of new) taken r (after_rest rest_failed answer) is in
      let (quiet, passed) = ok_before rest_failed answer tt (sym ok) in
      let e = subst Ending passed (ended finishes.failed) in
      let p = sends.part in
      let no_write : failed_with sends.failed finishes.failed ≡ false = sym writes
      ∙ ap (λ (a : Result (Unit {0}) JoinCause). is_failed_write a) passed in
      let no_read : sends.read_failed ≡ false = sym (reads no_write)
      ∙ ap (λ (a : Result (Unit {0}) JoinCause). is_failed_read a) passed in
      let whole_is : p.whole ++ p.later ≡ p.whole = ap (λ js. p.whole ++ js) e.no_later ∙ append-nil p.whole in
      let text : sends.text ≡ joined_text d sends.place (e.names ∷ []) p.whole =
      whole_text (joined_text d sends.place sends.header) p.whole p.later sends.text p.left p.cut e.no_later e.none_left
      ∙ ap (λ h. joined_text d sends.place h p.whole) e.header_is in
      let blobs : AreJoined l p.bytes p.whole = told_blobs p.whole
      (subst (λ js. AreJoined (limits_of from) p.bytes js) whole_is p.blobs) in
      record {
        header = e.names;
        place = sends.place;
        joined = p.whole;
        headed = subst (λ h. IsHeaded name sends.place h p.whole) e.header_is
            (subst (λ js. IsHeaded name sends.place sends.header js) whole_is sends.headed);
        stream = subst (λ k. IfSome k (λ bytes. AreJoined l bytes p.whole)) told
            (known_joined l (rest_of from) p.bytes p.whole e.all blobs);
        records = e.records;
        appends = subst (λ t. Appends (contents (device_of writer)) (contents (device_of written_tap)) t) text
            (appended sends.text left.sends);
        geometries = ap (λ (q : Report). q.geometries) same ∙ sends.count;
        bytes = (let count = ap (λ (q : Report). q.bytes) same in
            omega (arith, count, left.sends.sent, none, ap length text));
        taken = subst (λ k. IfSome k (λ bytes. r.taken ≡ length bytes)) told
            (known_length (rest_of from) p.bytes r.taken e.all
            (ap (λ (q : Report). q.taken) same ∙ taken_whole l p.bytes (blobs_of p.whole) taken blobs (record {
              front = taken_as.front;
              rest = taken_as.rest;
              cut = taken_as.cut;
              blobs = taken_as.blobs;
              taken_is = taken_as.taken_is;
            })));
        end = subst (λ k. IfSome k (λ bytes. IsAtEnd (remaining (device_of after)))) told
            (subst (λ t. IfSome (rest_of from) (λ bytes. IsAtEnd t)) later_told e.ended);
        reads = reads_as false (subst (λ f. reader_failures to ≡ count_failure f (reader_failures from)) no_read
            sends.follows.failures);
        rest_reads = subst (λ f. Changes f (failures_of rest) (failures_of rest_after)) quiet changes;
        writes = writes_as ∙ ap (λ (b : Bool). count_failure b (failures_of writer)) no_write;
      }

  -- what the cause of a fault explains
  explains_as : (a : Result (Unit {0}) JoinCause) (why : JoinCause) → Err why ≡ after_rest rest_failed a → Ending a
      → ExplainsJoin d name (limits_of from) why parts
  explains_as (Ok all) why is e = go rest_failed is
    where
      go : (failed : Bool) → Err why ≡ after_rest failed (Ok all) → ExplainsJoin d name (limits_of from) why parts
      go true same =
          let is_rest : why ≡ RestDevice = cc same in
          subst (λ (k : JoinCause). ExplainsJoin d name (limits_of from) k parts) (sym is_rest)
          (inl (ap blobs_of e.no_later))
      go false same = absurd (cc same)
  explains_as (Err first) why is e =
      let same : cause_after rest_failed first ≡ why = cc is in
      subst (λ (k : JoinCause). ExplainsJoin d name (limits_of from) k parts) same
      (explains_after d name (limits_of from) first rest_failed parts e.0 e.1)

  stopped_as : (fault : JoinFault) → Err fault ≡ join_reported done (sent_of new) taken (after_rest rest_failed answer)
      → StoppedRest d name l remaining rest_remaining contents reader rest writer fault after rest_after written_tap
  stopped_as fault is =
      let (stops, same) = reports_err done (sent_of new) taken fault (after_rest rest_failed answer) is in
      let p = sends.part in
      record {
        text = sends.text;
        header = sends.header;
        place = sends.place;
        here = sends.here;
        part = record {
          whole = p.whole;
          later = p.later;
          bytes = p.bytes;
          left = p.left;
          blobs = told_blobs (p.whole ++ p.later) p.blobs;
          begins = subst (λ k. BeginsWith k p.bytes) told p.begins;
          cut = p.cut;
          one = p.one;
          holds = p.holds;
        };
        headed = sends.headed;
        records = sends.records;
        appends = appended sends.text left.sends;
        done = ap (λ (f : JoinFault). f.done) same ∙ sends.count;
        sent = (let count = ap (λ (f : JoinFault). f.sent) same in omega (arith, count, left.sends.sent, none));
        taken = subst (λ n. TakesBlobs (AreJoined l) p.bytes p.whole n) (sym (ap (λ (f : JoinFault). f.taken) same))
            taken_as;
        explains = subst (λ a. ExplainsJoin d name a fault.cause (record parts {
          told = remaining (device_of reader);
          told_last = remaining (device_of after);
        })) limits (subst (λ k. ExplainsJoin d name (limits_of from) fault.cause (record parts {
          told = k;
          told_last = remaining (device_of after);
        })) told (subst (λ t. ExplainsJoin d name (limits_of from) fault.cause (record parts { told_last = t }))
            later_told (explains_as answer fault.cause (sym stops) (ended finishes.failed))));
        read_failed = sends.read_failed;
        rest_failed = rest_failed;
        write_failed = failed_with sends.failed finishes.failed;
        reads = reads_as sends.read_failed sends.follows.failures;
        rest_reads = changes;
        writes = writes_as;
        devices = devices_with (is_failed_read answer) sends.read_failed rest_failed
            (failed_with sends.failed finishes.failed) fault.cause reads
            (subst (λ (b : Bool). IsJoinDevice (is_failed_read answer) rest_failed b fault.cause) writes
            (devices_as answer rest_failed fault.cause (sym stops)));
      }

  pub joined : IfOk report (λ r. JoinedRest d name l remaining rest_remaining contents reader rest writer r after
      rest_after written_tap)
  joined = when_ok report _ (λ r is. all_joined r (sym is ∙ finishes.reports))

  pub stopped : IfErr report (λ fault. StoppedRest d name l remaining rest_remaining contents reader rest writer fault
      after rest_after written_tap)
  stopped = when_err report _ (λ fault is. stopped_as fault (sym is ∙ finishes.reports))

-- what is flushed at the end
module _ {R W : Type 0} {read : Ghosts R} {d : ℕ} {name : List ℕ} {rest_told : Option (List ℕ)}
    {contents : W → Option (List ℕ)} {from to : Reader R read} {old mid new : Output W} {done taken : ℕ}
    {report : Result Report JoinFault} (rest_failed : Bool) (sending : Result (Unit {0}) JoinCause)
    (written_tap : Tap W) (finishes : FinishesJoin contents mid done taken rest_failed sending new report)
    (sends : SendsJoined name d rest_told contents from old to mid done taken sending)
    (closes : (output_tap new).now ≡ written_tap) where
  held : UnlessRefused (after_flush finishes.failed sending) (has_unflushed written_tap ≡ false)
  held = subst (λ t. UnlessRefused (after_flush finishes.failed sending) (has_unflushed t ≡ false)) closes
      (flushed_after contents mid new sending finishes.failed finishes.flushes sends.open_still)

  flushed_as : (answer : Result (Unit {0}) JoinCause) → UnlessRefused answer (has_unflushed written_tap ≡ false)
      → IsFlushedRest (join_reported done (sent_of new) taken (after_rest rest_failed answer)) written_tap
  flushed_as (Ok all) flushed = go rest_failed
    where
      go : (failed : Bool)
          → IsFlushedRest (join_reported done (sent_of new) taken (after_rest failed (Ok all))) written_tap
      go true = λ no_write no_length no_rest. absurd (no_rest refl)
      go false = flushed
  flushed_as (Err first) flushed = λ no_write no_length no_rest. flushed
      (λ is. no_write (written_stays rest_failed is)) (λ is. too_long rest_failed is no_length no_rest)
    where
      written_stays : (failed : Bool) → first ≡ Column (Stream cause.WriteDevice)
          → cause_after failed first ≡ Column (Stream cause.WriteDevice)
      written_stays true is = rw is refl
      written_stays false is = rw is refl

      too_long : (failed : Bool) → first ≡ Column (Stream cause.TooLong)
          → (cause_after failed first ≢ Column (Stream cause.TooLong)) → (cause_after failed first ≢ RestDevice) → ⊥
      too_long true is no_length no_rest = no_rest (rw is refl)
      too_long false is no_length no_rest = no_length (rw is refl)

  pub flushed : IsFlushedRest report written_tap
  flushed = subst (λ (r : Result Report JoinFault). IsFlushedRest r written_tap) (sym finishes.reports)
      (flushed_as (after_flush finishes.failed sending) held)
