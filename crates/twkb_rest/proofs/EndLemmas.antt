-- The flush after a column, and what the caller learns.
use Rattle.std.specs.Prelude.{IfErr, IfOk}
use Rattle.twkb_io.specs.Taps.{has_unflushed}
use Rattle.twkb_convert.proofs.Prelude.{◌≡◌, ◌∙◌, ℕ, Bool, true, false, List, [], ◌++◌, Option, Some, None}
use Rattle.twkb_convert.proofs.Prelude.{Result, Ok, Err, IfSome, length, ap, arith, refl, sym, subst, inl, inr, ◌⊎◌}
use Rattle.twkb_convert.proofs.Prelude.{append-nil, Appends, IsAtEnd, Ghosts, BeginsWith, sent_of, Sent, Output, Tap}
use Rattle.twkb_convert.proofs.Prelude.{Allowance, Reader, Tree, count_failure, device_of, failures_of}
use Rattle.twkb_convert.proofs.Prelude.{is_spent, output_failures, output_tap, IsDeviceCause}
use Rattle.twkb_convert.specs.Causes.{is_write}
use Rattle.twkb_convert.specs.Listed.{Listed, limits_of, reader_failures, reader_tap, rest_of, told_of}
use Rattle.twkb_convert.specs.Outputs.{Flushes, UnlessRefused}
use Rattle.twkb_convert.specs.Parts.{TakesBlobs}
use Rattle.twkb_convert.specs.declared.report.Cause.{Cause}
use Rattle.twkb_convert.specs.declared.report.Cause.TheVariants as cause
use Rattle.twkb_convert.specs.declared.report.Report.{Report}
use Rattle.twkb_convert.proofs.FlushLemmas.{flushed_last, leaves_last, one_front, when_err, when_ok}
use Rattle.twkb_rest.specs.Columns.{LineStream, RefusesLine, column_text}
use Rattle.twkb_rest.specs.Lines.{Ends, Sends}
use Rattle.twkb_rest.specs.Unpacked.{DevicesAgree, ExplainsUnpackCause, Finishes, IsFlushed, StoppedColumn, reported}
use Rattle.twkb_rest.specs.declared.fault.LineReason.{LineReason}
use Rattle.twkb_rest.specs.declared.fault.UnpackFault.{UnpackFault}
use Rattle.twkb_rest.specs.declared.fault.UnpackCause.{UnpackCause}
use Rattle.twkb_rest.specs.declared.fault.UnpackCause.TheVariants as column

-- ---- the flush

wrote : (failed : Bool) → IsDeviceCause failed true cause.WriteDevice
wrote false = refl
wrote true = refl

-- what was sent, after the flush
pub sends_last : {R W : Type 0} {read : Ghosts R} {d : ℕ} {name : List ℕ} {contents : W → Option (List ℕ)}
    {from to : Reader R read} {old mid new : Output W} {done taken : ℕ}
    {answer last : Result (Option LineReason) Cause} → Sends d name contents from old to mid done taken answer
    → Flushes contents mid answer new last → Sends d name contents from old to new done taken last
sends_last {d = d} {name = name} {from = from} {to = to} {taken = taken} {answer = answer} {last = last} sends
    flushes =
    let after = leaves_last sends.leaves flushes in
    record {
      text = sends.text;
      part = sends.part;
      leaves = after.0;
      count = sends.count;
      takes = sends.takes;
      read_failed = sends.read_failed;
      follows = sends.follows;
      ends = ends after.1;
    }
  where
    ends : (last ≡ answer) ⊎ (last ≡ Err cause.WriteDevice)
        → Ends d name from to sends.part.bytes sends.text sends.part.whole sends.part.later sends.part.left taken
        sends.read_failed last
    ends (inl same) = rw same sends.ends
    ends (inr write) = rw write (record { explains = tt; tell = wrote sends.read_failed })

-- what is flushed at the end
module _ {W : Type 0} {contents : W → Option (List ℕ)} {mid new : Output W} {done taken : ℕ}
    {sending : Result (Option LineReason) Cause} {report : Result Report UnpackFault}
    (finishes : Finishes contents mid done taken sending new report)
    (unspent : UnlessRefused sending (is_spent mid ≡ false)) (written : Tap W)
    (closes : (output_tap new).now ≡ written) where
  held : (answer : Result (Option LineReason) Cause) → finishes.answer ≡ answer
      → UnlessRefused answer (has_unflushed written ≡ false)
  held answer is = subst (λ t. UnlessRefused answer (has_unflushed t ≡ false)) closes
      (subst (λ a. UnlessRefused a (has_unflushed (output_tap new).now ≡ false)) is
      (flushed_last finishes.flushes unspent))

  flushed_as : (answer : Result (Option LineReason) Cause) → finishes.answer ≡ answer
      → IsFlushed (reported done (sent_of new) taken answer) written
  flushed_as (Ok None) is = held (Ok None) is
  flushed_as (Ok (Some why)) is = held (Ok (Some why)) is
  flushed_as (Err why) is = held (Err why) is

  pub flushed : IsFlushed report written
  flushed = subst (λ (r : Result Report UnpackFault). IsFlushed r written) (sym finishes.reports)
      (flushed_as finishes.answer refl)

-- ---- what is reported

-- a report is that of an answer that is the end
reports_ok : (blobs bytes taken : ℕ) (report : Report) (answer : Result (Option LineReason) Cause)
    → Ok report ≡ reported blobs bytes taken answer
    → (answer ≡ Ok None) × (report ≡ record { geometries = blobs; bytes = bytes; taken = taken })
reports_ok blobs bytes taken report (Ok None) is = (refl, cc is)
reports_ok blobs bytes taken report (Ok (Some why)) is = absurd (cc is)
reports_ok blobs bytes taken report (Err why) is = absurd (cc is)

-- the answer that a cause reports
abbrev answer_of : UnpackCause → Result (Option LineReason) Cause
answer_of (column.Stream why) = Err why
answer_of (column.Line offset why) = Ok (Some why)

-- the offset of a refused blob is the number of bytes taken
abbrev IsPlaced : ℕ → UnpackCause → Type 0
IsPlaced taken (column.Stream why) = ℕ
IsPlaced taken (column.Line offset why) = offset ≡ taken

-- The fault is that of an answer that is not the end.
record ReportsFault (blobs bytes taken : ℕ) (fault : UnpackFault) (answer : Result (Option LineReason) Cause) : Type 0
  where
    is : answer ≡ answer_of fault.cause
    placed : IsPlaced taken fault.cause
    done : fault.done ≡ blobs
    sent : fault.sent ≡ bytes
    taken_is : fault.taken ≡ taken

fault_as : (blobs bytes taken : ℕ) (fault : UnpackFault) (why : UnpackCause)
    → fault ≡ record { done = blobs; sent = bytes; taken = taken; cause = why } → IsPlaced taken why
    → ReportsFault blobs bytes taken fault (answer_of why)
fault_as blobs bytes taken fault why same placed =
    let cause_is : fault.cause ≡ why = ap (λ (f : UnpackFault). f.cause) same in
    record {
      is = ap answer_of (sym cause_is);
      placed = subst (IsPlaced taken) (sym cause_is) placed;
      done = ap (λ (f : UnpackFault). f.done) same;
      sent = ap (λ (f : UnpackFault). f.sent) same;
      taken_is = ap (λ (f : UnpackFault). f.taken) same;
    }

reports_err : (blobs bytes taken : ℕ) (fault : UnpackFault) (answer : Result (Option LineReason) Cause)
    → Err fault ≡ reported blobs bytes taken answer → ReportsFault blobs bytes taken fault answer
reports_err blobs bytes taken fault (Ok None) is = absurd (cc is)
reports_err blobs bytes taken fault (Ok (Some why)) is =
    fault_as blobs bytes taken fault (column.Line taken why) (cc is) refl
reports_err blobs bytes taken fault (Err why) is = fault_as blobs bytes taken fault (column.Stream why) (cc is) 0

-- ---- the taps

known_stream : (l : Allowance) (known : Option (List ℕ)) (bytes : List ℕ) (gs : List Tree)
    → IfSome known (λ whole. whole ≡ bytes) → LineStream l bytes gs
    → IfSome known (λ whole. LineStream l whole gs)
known_stream l None bytes gs all blobs = tt
known_stream l (Some whole) bytes gs all blobs = subst (λ b. LineStream l b gs) (sym all) blobs

-- the bytes of all blobs are those taken
pub taken_whole : (l : Allowance) (bytes : List ℕ) (gs : List Tree) (taken : ℕ) → LineStream l bytes gs
    → TakesBlobs (LineStream l) bytes gs taken → taken ≡ length bytes
taken_whole l bytes gs taken blobs takes =
    takes.taken_is ∙ ap length (one_front l takes.front bytes takes.rest [] gs takes.blobs.0 blobs.0
    (sym takes.cut ∙ sym (append-nil bytes)))

-- they are all bytes
pub known_length : (known : Option (List ℕ)) (bytes : List ℕ) (taken : ℕ) → IfSome known (λ whole. whole ≡ bytes)
    → taken ≡ length bytes → IfSome known (λ whole. taken ≡ length whole)
known_length None bytes taken all is = tt
known_length (Some whole) bytes taken all is = is ∙ ap length (sym all)

-- no text is left after that of all blobs
whole_text : (text_of : List Tree → List ℕ) (whole later : List Tree) (text left : List ℕ)
    → text_of (whole ++ later) ≡ text ++ left → later ≡ [] → left ≡ [] → text ≡ text_of whole
whole_text text_of whole later text left cut no_later none_left =
    sym (append-nil text) ∙ ap (λ l. text ++ l) (sym none_left) ∙ sym cut
    ∙ ap (λ gs. text_of (whole ++ gs)) no_later ∙ ap text_of (append-nil whole)

-- ---- what the answer explains

-- what the cause says of an answer that is not the end
explains_as : {R : Type 0} {read : Ghosts R} (d : ℕ) (name : List ℕ) (from to : Reader R read) (bytes text : List ℕ)
    (whole later : List Tree) (left : List ℕ) (taken : ℕ) (failed : Bool) (why : UnpackCause) → IsPlaced taken why
    → Ends d name from to bytes text whole later left taken failed (answer_of why)
    → ExplainsUnpackCause (column_text d name) (limits_of from) (rest_of from) (told_of to) bytes text why whole later
    left
explains_as d name from to bytes text whole later left taken failed (column.Stream why) placed ends = ends.explains
explains_as d name from to bytes text whole later left taken failed (column.Line offset why) placed ends = (
  ends.no_later,
  ends.none_left,
  subst (λ (n : ℕ). IfSome (rest_of from) (λ all. RefusesLine (limits_of from) all whole n why)) (sym placed)
      ends.refused,
)

module _ {R W : Type 0} {read : Ghosts R} {d : ℕ} {name : List ℕ} {contents : W → Option (List ℕ)}
    {l : Allowance} {from to : Reader R read} {old mid new : Output W} {done taken : ℕ}
    {sending : Result (Option LineReason) Cause}
    {report : Result Report UnpackFault} (remaining : R → Option (List ℕ)) (reader after : Tap R)
    (writer written : Tap W) (finishes : Finishes contents mid done taken sending new report)
    (sends : Sends d name contents from old to mid done taken sending)
    (limits : limits_of from ≡ l) (told : rest_of from ≡ remaining (device_of reader))
    (failures : reader_failures from ≡ failures_of reader)
    (borrowed : (output_tap old).now ≡ writer) (none : sent_of old ≡ 0)
    (ends : (reader_tap to).now ≡ after) (closes : (output_tap new).now ≡ written)
    (later_told : told_of to ≡ remaining (device_of after)) where
  appended : (text : List ℕ) → Sent contents old text new
      → Appends (contents (device_of writer)) (contents (device_of written)) text
  appended text sent = subst (λ t. Appends (contents (device_of t)) (contents (device_of written)) text) borrowed
      (subst (λ t. Appends (contents (device_of (output_tap old).now)) (contents (device_of t)) text)
      closes sent.appends)

  reads_as : (failed : Bool) → reader_failures to ≡ count_failure failed (reader_failures from)
      → failures_of after ≡ count_failure failed (failures_of reader)
  reads_as failed reads = ap failures_of (sym ends) ∙ reads ∙ ap (count_failure failed) failures

  writes_as : (failed : Bool) → output_failures new ≡ count_failure failed (output_failures old)
      → failures_of written ≡ count_failure failed (failures_of writer)
  writes_as failed writes = ap failures_of (sym closes) ∙ writes
      ∙ ap (λ t. count_failure failed (failures_of t)) borrowed

  sends_with : (answer : Result (Option LineReason) Cause) → finishes.answer ≡ answer
      → Sends d name contents from old to new done taken answer
  sends_with answer is = rw is at (sends_last sends finishes.flushes)

  unpacked_as : (r : Report) → Ok r ≡ reported done (sent_of new) taken finishes.answer
      → Listed (LineStream l) (column_text d name) remaining contents reader writer r after written
  unpacked_as r is =
      let (ok, same) = reports_ok done (sent_of new) taken r finishes.answer is in
      let lists = sends_with (Ok None) ok in
      let p = lists.part in
      let e = lists.ends in
      let text = whole_text (column_text d name) p.whole p.later lists.text p.left p.cut e.no_later e.none_left in
      let blobs : LineStream l p.bytes p.whole = subst (λ a. LineStream a p.bytes p.whole) limits
      (subst (λ gs. LineStream (limits_of from) p.bytes gs)
      (ap (λ gs. p.whole ++ gs) e.no_later ∙ append-nil p.whole) p.blobs) in
      record {
        found = p.whole;
        stream = subst (λ k. IfSome k (λ bytes. LineStream l bytes p.whole)) told
            (known_stream l (rest_of from) p.bytes p.whole e.all blobs);
        appends = subst (λ t. Appends (contents (device_of writer)) (contents (device_of written)) t) text
            (appended lists.text lists.leaves.sends);
        geometries = ap (λ (q : Report). q.geometries) same ∙ lists.count;
        bytes = (let count = ap (λ (q : Report). q.bytes) same in
            omega (arith, count, lists.leaves.sends.sent, none, ap length text));
        taken = subst (λ k. IfSome k (λ bytes. r.taken ≡ length bytes)) told
            (known_length (rest_of from) p.bytes r.taken e.all
            (ap (λ (q : Report). q.taken) same ∙ taken_whole l p.bytes p.whole taken blobs
            (subst (λ a. TakesBlobs (LineStream a) p.bytes p.whole taken) limits lists.takes)));
        end = subst (λ k. IfSome k (λ bytes. IsAtEnd (remaining (device_of after)))) told
            (subst (λ t. IfSome (rest_of from) (λ bytes. IsAtEnd t)) later_told e.ended);
        reads = reads_as false (subst (λ f. reader_failures to ≡ count_failure f (reader_failures from))
            e.no_read lists.follows.failures);
        writes = writes_as false lists.leaves.failures;
      }

  -- the failures that the taps counted
  devices_as : (why : UnpackCause) (lists : Sends d name contents from old to new done taken (answer_of why))
      → DevicesAgree reader writer why after written
  devices_as (column.Stream why) lists = record {
    read_failed = lists.read_failed;
    write_failed = is_write {A = Unit {0}} (Err why);
    reads = reads_as lists.read_failed lists.follows.failures;
    writes = writes_as (is_write {A = Option LineReason} (Err why)) lists.leaves.failures;
    tell = lists.ends.tell;
  }
  devices_as (column.Line offset why) lists = (
    reads_as false (subst (λ f. reader_failures to ≡ count_failure f (reader_failures from)) lists.ends.no_read
        lists.follows.failures),
    writes_as false lists.leaves.failures,
  )

  stopped_as : (fault : UnpackFault) → Err fault ≡ reported done (sent_of new) taken finishes.answer
      → StoppedColumn d name l remaining contents reader writer fault after written
  stopped_as fault is =
      let reports = reports_err done (sent_of new) taken fault finishes.answer is in
      let lists = sends_with (answer_of fault.cause) reports.is in
      let p = lists.part in
      record {
        text = lists.text;
        part = record {
          whole = p.whole;
          later = p.later;
          bytes = p.bytes;
          left = p.left;
          blobs = subst (λ a. LineStream a p.bytes (p.whole ++ p.later)) limits p.blobs;
          begins = subst (λ k. BeginsWith k p.bytes) told p.begins;
          cut = p.cut;
          one = p.one;
          holds = p.holds;
        };
        appends = appended lists.text lists.leaves.sends;
        done = reports.done ∙ lists.count;
        sent = omega (arith, reports.sent, lists.leaves.sends.sent, none);
        taken = subst (λ a. TakesBlobs (LineStream a) p.bytes p.whole fault.taken) limits
            (subst (λ n. TakesBlobs (LineStream (limits_of from)) p.bytes p.whole n) (sym reports.taken_is)
            lists.takes);
        explains = subst (λ a. ExplainsUnpackCause (column_text d name) a
            (remaining (device_of reader)) (remaining (device_of after)) p.bytes lists.text fault.cause p.whole
            p.later
            p.left)
            limits
            (subst (λ k. ExplainsUnpackCause (column_text d name) (limits_of from) k
            (remaining (device_of after)) p.bytes lists.text fault.cause p.whole p.later p.left) told
            (subst (λ t. ExplainsUnpackCause (column_text d name) (limits_of from)
            (rest_of from) t p.bytes lists.text fault.cause p.whole p.later p.left) later_told
            (explains_as d name from to p.bytes lists.text p.whole p.later p.left taken lists.read_failed fault.cause
            reports.placed lists.ends)));
        devices = devices_as fault.cause lists;
      }

  pub unpacked : IfOk report (λ r. Listed (LineStream l) (column_text d name) remaining contents reader writer r
      after written)
  unpacked = when_ok report _ (λ r is. unpacked_as r (sym is ∙ finishes.reports))

  pub stopped : IfErr report (λ fault. StoppedColumn d name l remaining contents reader writer fault after written)
  stopped = when_err report _ (λ fault is. stopped_as fault (sym is ∙ finishes.reports))
