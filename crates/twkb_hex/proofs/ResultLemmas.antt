-- From an output to the result that a conversion's caller sees.
use Rattle.std.proofs.Common.{◌≡◌, ◌∙◌, ℕ, List, [], ◌∷◌, ◌++◌, Option, Some, None, Bool, true, false, Result, Ok, Err}
use Rattle.std.proofs.Common.{ap, refl, sym, subst, inl, inr, arith, length}
use Rattle.std.specs.Prelude.{IfSome, ◌⊎◌}
use Rattle.std.proofs.lemmas.List.{append-nil}
use Rattle.std.specs.Io.KnownBytes.{Appends}
use Rattle.twkb_io.specs.declared.output.Output.{Output}
use Rattle.twkb_io.specs.declared.tap.Tap.{Tap}
use Rattle.twkb_io.specs.Outputs.{output_tap, sent_of}
use Rattle.twkb_io.specs.Taps.{count_failure, device_of, failures_of}
use Rattle.twkb_csv.specs.Named.{Record}
use Rattle.twkb_hex.specs.Causes.{Changes, IsDeviceCause, after_reads, is_write}
use Rattle.twkb_hex.specs.Fields.{Way, delimiter_of}
use Rattle.twkb_hex.specs.Records.{AreRecordsOf, BeginWith, text_of}
use Rattle.twkb_hex.specs.Results.{Converted, Ends, Finishes, Flushes, FrontOfRecords, Sends}
use Rattle.twkb_hex.specs.Results.{StoppedConverting, WholeCsv}
use Rattle.twkb_hex.specs.Rows.{Converts}
use Rattle.twkb_hex.specs.declared.report.HexCause.{HexCause}
use Rattle.twkb_hex.specs.declared.report.HexCause.TheVariants as cause
use Rattle.twkb_hex.specs.declared.report.HexFault.{HexFault}
use Rattle.twkb_hex.specs.declared.report.HexReport.{HexReport}
use Rattle.twkb_hex.proofs.FlushLemmas.{flushes_before, leaves_last, ok_before, reports_err, reports_ok}

-- ==== The cause, once it is known whether a read failed.

-- a text begins with all its records
all_begin : (delimiter : ℕ) (told : Option (List ℕ)) (records : List Record)
    → IfSome told (λ text. AreRecordsOf delimiter text records) → IfSome told (λ text. BeginWith delimiter text
    (records ++ []))
all_begin delimiter None records all = tt
all_begin delimiter (Some text) records (state, left, reached, none) =
    subst (λ (rs : List Record). BeginWith delimiter text rs) (sym (append-nil records)) (state, left, reached)

-- the text of all records is a part of it
abbrev whole_part : (way : Way) (told : Option (List ℕ)) (bytes : List ℕ) (csv : WholeCsv way told)
    → bytes ≡ text_of (delimiter_of way) csv.become → FrontOfRecords way told bytes
whole_part way told bytes csv is = record {
  before = csv.header ∷ csv.rows;
  here = [];
  begins = all_begin (delimiter_of way) told (csv.header ∷ csv.rows) csv.all;
  whole = csv.become;
  later = [];
  held = [];
  converts = subst (Converts way (csv.header ∷ csv.rows)) (sym (append-nil csv.become)) csv.converts;
  front = [];
  left = [];
  cut = refl;
  written = is ∙ sym (append-nil (text_of (delimiter_of way) csv.become));
  one = inl refl;
}

-- what an answer says of the records and of the devices
abbrev Tells : Way → Option (List ℕ) → List ℕ → ℕ → Bool → Result (Unit {0}) HexCause
    → Result (Unit {0}) HexCause → Type 0
Tells way told bytes done failed answer (Ok all) = (failed ≡ false) × Ends way told bytes done (Ok all)
Tells way told bytes done failed answer (Err why) =
    Ends way told bytes done (Err why) × IsDeviceCause failed (is_write answer) why

tells : (way : Way) (told : Option (List ℕ)) (bytes : List ℕ) (done : ℕ) (failed : Bool)
    (answer : Result (Unit {0}) HexCause) → Ends way told bytes done answer
    → Tells way told bytes done failed answer (after_reads failed answer)
tells way told bytes done true (Ok all) (csv, is, count) = ((whole_part way told bytes csv is, count, refl), refl)
tells way told bytes done true (Err (cause.Record number why)) (part, count, e) = ((part, count, e.1), refl)
tells way told bytes done true (Err cause.ReadDevice) (part, count, e) = ((part, count, e), refl)
tells way told bytes done true (Err cause.WriteDevice) (part, count, e) = ((part, count, e), refl)
tells way told bytes done true (Err cause.Memory) (part, count, e) = ((part, count, e), refl)
tells way told bytes done true (Err cause.TooLong) (part, count, e) = ((part, count, e.0), refl)
tells way told bytes done false (Ok all) e = (refl, e)
tells way told bytes done false (Err (cause.Record number why)) e = (e, (λ i. cc i, λ i. cc i))
tells way told bytes done false (Err cause.ReadDevice) (part, count, e) = ((part, count, e), (λ i. cc i, λ i. cc i))
tells way told bytes done false (Err cause.WriteDevice) e = (e, refl)
tells way told bytes done false (Err cause.Memory) e = (e, (λ i. cc i, λ i. cc i))
tells way told bytes done false (Err cause.TooLong) e = (e, (λ i. cc i, λ i. cc i))

-- what was sent, after the flush
sends_last : {W : Type 0} {way : Way} {contents : W → Option (List ℕ)} {told : Option (List ℕ)}
    {old mid new : Output W} {done : ℕ} {answer last : Result (Unit {0}) HexCause}
    → Sends way contents told old mid done answer → Flushes contents mid answer new last
    → Sends way contents told old new done last
sends_last {way = way} {told = told} {done = done} {answer = answer} {last = last} s flushes =
    let after = leaves_last s.leaves flushes in
    record { bytes = s.bytes; leaves = after.0; ends = ends answer s.ends after.1 }
  where
    -- the part that was sent, whatever the answer
    failed : (a : Result (Unit {0}) HexCause) → Ends way told s.bytes done a
        → Ends way told s.bytes done (Err cause.WriteDevice)
    failed (Ok all) (csv, is, count) = (whole_part way told s.bytes csv is, count, tt)
    failed (Err why) (part, count, e) = (part, count, tt)

    ends : (a : Result (Unit {0}) HexCause) → Ends way told s.bytes done a
        → (last ≡ a) ⊎ (last ≡ Err cause.WriteDevice) → Ends way told s.bytes done last
    ends a e (inl same) = rw same e
    ends a e (inr write) = rw write (failed a e)

-- ==== The result.

module _ {R W : Type 0} {way : Way} {contents : W → Option (List ℕ)} {old mid new : Output W} {done : ℕ}
    {report : Result HexReport HexFault} (remaining : R → Option (List ℕ)) (reader read : Tap R)
    (writer written : Tap W) (failed : Bool) (sending : Result (Unit {0}) HexCause)
    (changes : Changes failed (failures_of reader) (failures_of read))
    (finishes : Finishes contents mid done (after_reads failed sending) new report)
    (sends : Sends way contents (remaining (device_of reader)) old mid done sending)
    (borrowed : (output_tap old).now ≡ writer) (closes : (output_tap new).now ≡ written) (none : sent_of old ≡ 0)
  where
    flushed : (answer : Result (Unit {0}) HexCause) × Flushes contents mid sending new answer
        × (finishes.answer ≡ after_reads failed answer)
    flushed = flushes_before failed sending finishes.flushes

    s : Sends way contents (remaining (device_of reader)) old new done flushed.0
    s = sends_last sends flushed.1

    told : Tells way (remaining (device_of reader)) s.bytes done failed flushed.0 finishes.answer
    told = subst (Tells way (remaining (device_of reader)) s.bytes done failed flushed.0) (sym flushed.2)
        (tells way (remaining (device_of reader)) s.bytes done failed flushed.0 s.ends)

    writes : failures_of written ≡ count_failure (is_write flushed.0) (failures_of writer)
    writes = ap failures_of (sym closes) ∙ s.leaves.failures
        ∙ ap (λ (t : Tap W). count_failure (is_write flushed.0) (failures_of t)) borrowed

    appended : Appends (contents (device_of writer)) (contents (device_of written)) s.bytes
    appended = subst (λ t. Appends (contents (device_of t)) (contents (device_of written)) s.bytes) borrowed
        (subst (λ t. Appends (contents (device_of (output_tap old).now)) (contents (device_of t)) s.bytes) closes
        s.leaves.sends.appends)

    -- all records were converted, and no read failed
    pub converted_with : (all : HexReport) → report ≡ Ok all
        → Converted way remaining contents reader writer all read written
    converted_with all is =
        let (ok, same) = reports_ok done (sent_of new) all finishes.answer (sym is ∙ finishes.reports) in
        let passed = ok_before failed flushed.0 tt (sym ok ∙ flushed.2) in
        let (quiet, (csv, own, count)) = subst (Tells way (remaining (device_of reader)) s.bytes done failed flushed.0)
        ok told in
        record {
          csv = csv;
          appends = subst (λ b. Appends (contents (device_of writer)) (contents (device_of written)) b) own appended;
          count = ap (λ (r : HexReport). r.records) same ∙ count;
          bytes = (let more = s.leaves.sends.sent in let total = ap (λ (r : HexReport). r.bytes) same in
              omega (arith, total, more, none, ap length own));
          reads = subst (λ f. Changes f (failures_of reader) (failures_of read)) quiet changes;
          writes = subst (λ a. failures_of written ≡ count_failure (is_write a) (failures_of writer)) passed writes;
        }

    -- not all records were converted, the flush failed, or a read failed
    pub stopped_with : (fault : HexFault) → report ≡ Err fault
        → StoppedConverting way remaining contents reader writer fault read written
    stopped_with fault is =
        let (stops, same) = reports_err done (sent_of new) fault finishes.answer (sym is ∙ finishes.reports) in
        let ((part, count, explains), device) = subst (Tells way (remaining (device_of reader)) s.bytes done failed
        flushed.0) stops told in
        record {
          bytes = s.bytes;
          part = part;
          appends = appended;
          sent = (let more = s.leaves.sends.sent in let total = ap (λ (f : HexFault). f.sent) same in
              omega (arith, total, more, none));
          done = ap (λ (f : HexFault). f.done) same ∙ count;
          explains = explains;
          devices = record {
            read_failed = failed;
            write_failed = is_write flushed.0;
            reads = changes;
            writes = writes;
            tell = device;
          };
        }
