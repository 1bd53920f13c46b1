-- From the outputs to the result that a caller sees.
use Rattle.std.proofs.Common.{◌≡◌, ◌∙◌, ℕ, List, [], ◌∷◌, ◌++◌, Option, Some, None, Bool, true, false, Result, Ok, Err}
use Rattle.std.proofs.Common.{ap, refl, sym, subst, inl, inr, arith, length, ◌-◌}
use Rattle.std.specs.Prelude.{IfSome, ◌||◌}
use Rattle.std.proofs.lemmas.List.{append-nil}
use Rattle.std.specs.Io.KnownBytes.{Appends}
use Rattle.twkb_io.specs.declared.output.Output.{Output}
use Rattle.twkb_io.specs.declared.tap.Tap.{Tap}
use Rattle.twkb_io.specs.Outputs.{output_tap, sent_of}
use Rattle.twkb_io.specs.Taps.{count_failure, device_of, failures_of, has_unflushed}
use Rattle.twkb_csv.specs.Named.{Record}
use Rattle.twkb_convert.specs.declared.report.Cause.TheVariants as cause
use Rattle.twkb_convert.specs.declared.report.Report.{Report}
use Rattle.twkb_column.specs.declared.fault.ColumnCause.{ColumnCause}
use Rattle.twkb_column.specs.declared.fault.ColumnCause.TheVariants.{Csv, Pack}
use Rattle.twkb_column.specs.declared.fault.ColumnFault.{ColumnFault}
use Rattle.twkb_records.specs.Records.{AreRecordsOf, BeginWith}
use Rattle.twkb_split.specs.Causes.{Changes, IsDeviceCause, after_flush, after_reads, is_write}
use Rattle.twkb_split.specs.Pieces.{Piece, Splits, rest_text, stream_of}
use Rattle.twkb_split.specs.Results.{AreFlushedButForDevices, FrontOfPieces, PackedRest, StoppedRest, WholeCsv}
use Rattle.twkb_split.specs.Results.{records_of}
use Rattle.twkb_split.specs.Sending.{Ends, EndsEarly, Finishes, IsLeft, Sends, UnlessRefused}
use Rattle.twkb_split.specs.declared.packing.Packing.{Packing}
use Rattle.twkb_split.proofs.FlushLemmas.{failed_with, flushed_both, known_after, left_last, ok_before}
use Rattle.twkb_split.proofs.FlushLemmas.{reports_err, reports_ok, tells_last}
use Rattle.twkb_split.proofs.SendingLemmas.{become-length}

-- ==== The cause, once it is known whether a flush or a read failed.

-- a text begins with all its records
all_begin : (delimiter : ℕ) (told : Option (List ℕ)) (records : List Record)
    → IfSome told (λ text. AreRecordsOf delimiter text records)
    → IfSome told (λ text. BeginWith delimiter text (records ++ []))
all_begin delimiter None records all = tt
all_begin delimiter (Some text) records (state, left, reached, none) =
    subst (λ (rs : List Record). BeginWith delimiter text rs) (sym (append-nil records)) (state, left, reached)

-- all pieces are a part of them
abbrev whole_part : (p : Packing) (told : Option (List ℕ)) (stream text : List ℕ) (csv : WholeCsv p told)
    → stream ≡ stream_of csv.pieces → text ≡ rest_text p.column.delimiter csv.pieces → FrontOfPieces p told stream text
whole_part p told stream text csv is rest_is = record {
  before = csv.header ∷ csv.rows;
  here = [];
  begins = all_begin p.column.delimiter told (csv.header ∷ csv.rows) csv.all;
  whole = csv.pieces;
  later = [];
  held = [];
  splits = subst (Splits p (csv.header ∷ csv.rows)) (sym (append-nil csv.pieces)) csv.splits;
  blob_front = [];
  blob_left = [];
  blob_cut = refl;
  blobs_are = is ∙ sym (append-nil (stream_of csv.pieces));
  rest_front = [];
  rest_left = [];
  rest_cut = refl;
  rest_is = rest_is ∙ sym (append-nil (rest_text p.column.delimiter csv.pieces));
  one = inl refl;
  rest_first = inl refl;
}

-- what was sent, if a flush failed
ends_failed : (p : Packing) (told : Option (List ℕ)) (stream text : List ℕ) (done : ℕ)
    (answer : Result (Unit {0}) ColumnCause) → Ends p told stream text done answer
    → Ends p told stream text done (Err (Pack cause.WriteDevice))
ends_failed p told stream text done (Ok all) (csv, is, rest_is, count) =
    ((whole_part p told stream text csv is rest_is, count, tt), λ i. refl)
ends_failed p told stream text done (Err why) ((part, count, e), kept) = ((part, count, tt), λ i. cc i)

ends_flushed : (p : Packing) (told : Option (List ℕ)) (stream text : List ℕ) (done : ℕ)
    (answer : Result (Unit {0}) ColumnCause) (again : Bool) → Ends p told stream text done answer
    → Ends p told stream text done (after_flush again answer)
ends_flushed p told stream text done answer true e = ends_failed p told stream text done answer e
ends_flushed p told stream text done answer false e = e

-- what an answer says of the pieces and of the devices
abbrev Tells : Packing → Option (List ℕ) → (stream text : List ℕ) → ℕ → Bool → Result (Unit {0}) ColumnCause
    → Result (Unit {0}) ColumnCause → Type 0
Tells p told stream text done failed answer (Ok all) = (failed ≡ false) × Ends p told stream text done (Ok all)
Tells p told stream text done failed answer (Err why) =
    EndsEarly p told stream text done why × IsDeviceCause failed (is_write answer) why

tells : (p : Packing) (told : Option (List ℕ)) (stream text : List ℕ) (done : ℕ) (failed : Bool)
    (answer : Result (Unit {0}) ColumnCause) → Ends p told stream text done answer
    → Tells p told stream text done failed answer (after_reads failed answer)
tells p told stream text done true (Ok all) (csv, is, rest_is, count) =
    ((whole_part p told stream text csv is rest_is, count, inl refl), refl)
tells p told stream text done true (Err (Csv number why)) ((part, count, e), kept) = ((part, count, inl e.0), refl)
tells p told stream text done true (Err (Pack (cause.Row number why))) ((part, count, e), kept) =
    ((part, count, inl e.0), refl)
tells p told stream text done true (Err (Pack (cause.Blob offset why))) ((part, count, e), kept) = absurd e
tells p told stream text done true (Err (Pack cause.ReadDevice)) (early, kept) = (early, refl)
tells p told stream text done true (Err (Pack cause.WriteDevice)) (early, kept) = (early, refl)
tells p told stream text done true (Err (Pack cause.Memory)) ((part, count, e), kept) = ((part, count, inl e), refl)
tells p told stream text done true (Err (Pack cause.TooLong)) ((part, count, e), kept) = ((part, count, inr e), refl)
tells p told stream text done true (Err (Pack cause.TooManyRecords)) ((part, count, e), kept) =
    ((part, count, inl e.0), refl)
tells p told stream text done false (Ok all) e = (refl, e)
tells p told stream text done false (Err (Csv number why)) (early, kept) = (early, (λ i. cc i, λ i. cc i))
tells p told stream text done false (Err (Pack (cause.Row number why))) (early, kept) =
    (early, (λ i. cc i, λ i. cc i))
tells p told stream text done false (Err (Pack (cause.Blob offset why))) (early, kept) =
    (early, (λ i. cc i, λ i. cc i))
tells p told stream text done false (Err (Pack cause.ReadDevice)) ((part, count, e), kept) =
    ((part, count, kept refl), (λ i. cc i, λ i. cc i))
tells p told stream text done false (Err (Pack cause.WriteDevice)) (early, kept) = (early, refl)
tells p told stream text done false (Err (Pack cause.Memory)) (early, kept) = (early, (λ i. cc i, λ i. cc i))
tells p told stream text done false (Err (Pack cause.TooLong)) (early, kept) = (early, (λ i. cc i, λ i. cc i))
tells p told stream text done false (Err (Pack cause.TooManyRecords)) (early, kept) =
    (early, (λ i. cc i, λ i. cc i))

-- ==== The result.

-- the pieces are one for each record after the header, and one for the header
rows_of_pieces : (p : Packing) (told : Option (List ℕ)) (csv : WholeCsv p told)
    → length csv.pieces - 1 ≡ length csv.rows
rows_of_pieces p told csv = go csv.pieces csv.splits
  where
    go : (pieces : List Piece) → Splits p (csv.header ∷ csv.rows) pieces → length pieces - 1 ≡ length csv.rows
    go [] splits = absurd splits
    go (piece ∷ pieces) (same, (place, found, become)) =
        let many = become-length p place (length csv.header) csv.rows pieces become in omega (arith, many)

module _ {R W V : Type 0} {p : Packing} {contents : W → Option (List ℕ)} {rest_contents : V → Option (List ℕ)}
    {first mid new : Output W} {rest_first rest_mid rest_new : Output V} {done : ℕ}
    {report : Result Report ColumnFault} (remaining : R → Option (List ℕ)) (reader read : Tap R)
    (blobs blobs_new : Tap W) (rest rest_tap : Tap V) (read_failed : Bool) (sending : Result (Unit {0}) ColumnCause)
    (changes : Changes read_failed (failures_of reader) (failures_of read))
    (finishes : Finishes contents rest_contents mid new rest_mid rest_new done read_failed sending report)
    (sends : Sends p contents rest_contents (remaining (device_of reader)) first mid rest_first rest_mid done sending)
    (borrowed : (output_tap first).now ≡ blobs) (closes : (output_tap new).now ≡ blobs_new)
    (rest_borrowed : (output_tap rest_first).now ≡ rest) (rest_closes : (output_tap rest_new).now ≡ rest_tap)
    (none : sent_of first ≡ 0) where
  abbrev answer : Result (Unit {0}) ColumnCause
  answer = after_flush (finishes.rest_failed || finishes.failed) sending

  abbrev told : Option (List ℕ)
  told = remaining (device_of reader)

  ended : Ends p told sends.stream sends.text done answer
  ended = ends_flushed p told sends.stream sends.text done sending (finishes.rest_failed || finishes.failed) sends.ends

  known : Tells p told sends.stream sends.text done read_failed answer (after_reads read_failed answer)
  known = tells p told sends.stream sends.text done read_failed answer ended

  left : IsLeft contents first sends.stream new (failed_with sends.failed finishes.failed)
  left = left_last sends.failed finishes.failed sends.left finishes.flushes

  rest_left : IsLeft rest_contents rest_first sends.text rest_new (failed_with sends.rest_failed finishes.rest_failed)
  rest_left = left_last sends.rest_failed finishes.rest_failed sends.rest_left finishes.rest_flushes

  wrote : is_write answer
      ≡ (failed_with sends.rest_failed finishes.rest_failed || failed_with sends.failed finishes.failed)
  wrote = tells_last sending sends.rest_failed sends.failed finishes.rest_failed finishes.failed sends.tells

  writes : failures_of blobs_new ≡ count_failure (failed_with sends.failed finishes.failed) (failures_of blobs)
  writes = ap failures_of (sym closes) ∙ left.failures
      ∙ ap (λ (t : Tap W). count_failure (failed_with sends.failed finishes.failed) (failures_of t)) borrowed

  rest_writes : failures_of rest_tap
      ≡ count_failure (failed_with sends.rest_failed finishes.rest_failed) (failures_of rest)
  rest_writes = ap failures_of (sym rest_closes) ∙ rest_left.failures
      ∙ ap (λ (t : Tap V). count_failure (failed_with sends.rest_failed finishes.rest_failed) (failures_of t))
      rest_borrowed

  appended : Appends (contents (device_of blobs)) (contents (device_of blobs_new)) sends.stream
  appended = subst (λ t. Appends (contents (device_of t)) (contents (device_of blobs_new)) sends.stream) borrowed
      (subst (λ t. Appends (contents (device_of (output_tap first).now)) (contents (device_of t)) sends.stream) closes
      left.sends.appends)

  rest_appended : Appends (rest_contents (device_of rest)) (rest_contents (device_of rest_tap)) sends.text
  rest_appended = subst (λ t. Appends (rest_contents (device_of t)) (rest_contents (device_of rest_tap)) sends.text)
      rest_borrowed (subst (λ t. Appends (rest_contents (device_of (output_tap rest_first).now))
      (rest_contents (device_of t)) sends.text) rest_closes rest_left.sends.appends)

  -- no write failed, if that is not the answer
  none_failed : answer ≡ Ok tt → (failed_with sends.rest_failed finishes.rest_failed ≡ false)
      × (failed_with sends.failed finishes.failed ≡ false)
  none_failed ok = neither _ _ (sym wrote ∙ ap (λ (a : Result (Unit {0}) ColumnCause). is_write a) ok)
    where
      neither : (a b : Bool) → (a || b) ≡ false → (a ≡ false) × (b ≡ false)
      neither true b is = absurd (cc is)
      neither false b is = (refl, is)

  -- all records were packed, and no read failed
  pub packed_with : (all : Report) → report ≡ Ok all
      → PackedRest p remaining contents rest_contents reader blobs rest all read blobs_new rest_tap
  packed_with all is =
      let (ok, same) = reports_ok done (sent_of new) all (after_reads read_failed answer)
      (sym is ∙ finishes.reports) in
      let passed = ok_before read_failed answer tt (sym ok) in
      let (quiet, (csv, own, rest_own, count)) = subst (Tells p told sends.stream sends.text done read_failed answer) ok
      known in
      record {
        csv = csv;
        stream = subst (λ b. Appends (contents (device_of blobs)) (contents (device_of blobs_new)) b) own appended;
        records = subst (λ b. Appends (rest_contents (device_of rest)) (rest_contents (device_of rest_tap)) b) rest_own
            rest_appended;
        count = ap (λ (r : Report). r.geometries) same ∙ ap (λ (n : ℕ). n - 1) count ∙ rows_of_pieces p told csv;
        bytes = (let more = left.sends.sent in let total = ap (λ (r : Report). r.bytes) same in
            omega (arith, total, more, none, ap length own));
        taken = ap (λ (r : Report). r.taken) same ∙ ap records_of count;
        reads = subst (λ f. Changes f (failures_of reader) (failures_of read)) quiet changes;
        blob_writes = writes
            ∙ ap (λ (b : Bool). count_failure b (failures_of blobs)) (none_failed passed).1;
        rest_writes = rest_writes
            ∙ ap (λ (b : Bool). count_failure b (failures_of rest)) (none_failed passed).0;
      }

  -- not all records were packed, a flush failed, or a read failed
  pub stopped_with : (fault : ColumnFault) → report ≡ Err fault
      → StoppedRest p remaining contents rest_contents reader blobs rest fault read blobs_new rest_tap
  stopped_with fault is =
      let (stops, same) = reports_err done (sent_of new) fault (after_reads read_failed answer)
      (sym is ∙ finishes.reports) in
      let ((part, count, explains), device) = subst (Tells p told sends.stream sends.text done read_failed answer) stops
      known in
      record {
        bytes = sends.stream;
        text = sends.text;
        part = part;
        stream = appended;
        records = rest_appended;
        sent = (let more = left.sends.sent in let total = ap (λ (f : ColumnFault). f.sent) same in
            omega (arith, total, more, none));
        done = ap (λ (f : ColumnFault). f.done) same ∙ ap (λ (n : ℕ). n - 1) count;
        taken = ap (λ (f : ColumnFault). f.taken) same ∙ ap records_of count;
        explains = explains;
        devices = record {
          read_failed = read_failed;
          blobs_failed = failed_with sends.failed finishes.failed;
          rest_failed = failed_with sends.rest_failed finishes.rest_failed;
          reads = changes;
          blob_writes = writes;
          rest_writes = rest_writes;
          tell = subst (λ (b : Bool). IsDeviceCause read_failed b fault.cause) wrote device;
        };
      }

-- what is flushed at the end
module _ {W V : Type 0} {p : Packing} {contents : W → Option (List ℕ)} {rest_contents : V → Option (List ℕ)}
    {told : Option (List ℕ)} {first mid new : Output W} {rest_first rest_mid rest_new : Output V} {done : ℕ}
    {report : Result Report ColumnFault} (read_failed : Bool) (sending : Result (Unit {0}) ColumnCause)
    (blobs_new : Tap W) (rest_tap : Tap V)
    (finishes : Finishes contents rest_contents mid new rest_mid rest_new done read_failed sending report)
    (sends : Sends p contents rest_contents told first mid rest_first rest_mid done sending)
    (closes : (output_tap new).now ≡ blobs_new) (rest_closes : (output_tap rest_new).now ≡ rest_tap) where
  abbrev flushed_answer : Result (Unit {0}) ColumnCause
  flushed_answer = after_flush (finishes.rest_failed || finishes.failed) sending

  -- both writers are flushed, unless an output refused a call
  flushed : UnlessRefused flushed_answer ((has_unflushed blobs_new ≡ false) × (has_unflushed rest_tap ≡ false))
  flushed = subst (λ t. UnlessRefused flushed_answer ((has_unflushed blobs_new ≡ false) × (has_unflushed t ≡ false)))
      rest_closes (subst (λ t. UnlessRefused flushed_answer ((has_unflushed t ≡ false)
      × (has_unflushed (output_tap rest_new).now ≡ false))) closes
      (flushed_both contents rest_contents mid new rest_mid rest_new sending finishes.rest_failed finishes.failed
      finishes.flushes finishes.rest_flushes sends.open_still))

  pub flushed_all : AreFlushedButForDevices report blobs_new rest_tap
  flushed_all = go report refl
    where
      go : (r : Result Report ColumnFault) → report ≡ r → AreFlushedButForDevices r blobs_new rest_tap
      go (Ok all) is =
          let (ok, same) = reports_ok done (sent_of new) all (after_reads read_failed flushed_answer)
          (sym is ∙ finishes.reports) in
          subst (λ a. UnlessRefused a ((has_unflushed blobs_new ≡ false) × (has_unflushed rest_tap ≡ false)))
          (ok_before read_failed flushed_answer tt (sym ok)) flushed
      go (Err fault) is = λ no_write no_read no_length.
          (let (stops, same) = reports_err done (sent_of new) fault (after_reads read_failed flushed_answer)
          (sym is ∙ finishes.reports) in
          known_after read_failed flushed_answer fault.cause _ (sym stops) flushed no_write no_read no_length)
