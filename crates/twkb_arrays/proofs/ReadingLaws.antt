-- Streams have one reading into arrays, which has the rows of the text that they are unpacked to.
use Rattle.std.proofs.Common.{◌≡◌, ◌∙◌, ℕ, ◌≤◌, ◌⊎◌, inl, inr, List, ◌++◌, length, Bool, true, false}
use Rattle.std.proofs.Common.{refl, sym, ap, subst, arith}
use Rattle.std.specs.Prelude.{Result, Ok, Err, ◌≢◌}
use Rattle.std.proofs.lemmas.List.{append-nil}
use Rattle.twkb_io.specs.declared.TheConstants.{MAX_BYTES}
use Rattle.twkb_tree.specs.Tree.{Tree}
use Rattle.twkb_tree.specs.Limits.{Allowance}
use Rattle.twkb_tree.specs.Rows.{rows_of}
use Rattle.twkb_grammar.specs.Items.{Stream}
use Rattle.twkb_grammar.specs.Fault.{StreamFault}
use Rattle.twkb_grammar.specs.Fault as grammar
use Rattle.twkb_grammar.proofs.Streams.{no_stream, one_stream, one_stream_fault}
use Rattle.twkb_engine.specs.Stops.{reason_of}
use Rattle.twkb_engine.specs.declared.blob_reason.BlobReason.{BlobReason}
use Rattle.twkb_engine.specs.declared.blob_reason.BlobReason.TheVariants as blob
use Rattle.twkb_blob.specs.declared.fault.BlobFault.{BlobFault}
use Rattle.twkb_blob.specs.declared.fault.BlobFault.TheVariants as fault
use Rattle.twkb_convert.specs.Outputs.{table_text}
use Rattle.twkb_convert.specs.declared.report.Cause.{Cause}
use Rattle.twkb_convert.specs.declared.report.Cause.TheVariants as cause
use Rattle.twkb_conversions.specs.Conversions.{IsRefusal, outputs_of}
use Rattle.twkb_conversions.specs.declared.conversion.Conversion.TheVariants.{Unpack}
use Rattle.twkb_buffer.specs.Calls.{Tells}
use Rattle.twkb_buffer.specs.Numbers.{blob_number_of}
use Rattle.twkb_buffer.specs.declared.report.BufferReport.{BufferReport}
use Rattle.twkb_buffer.specs.declared.point.BufferPoint.{BufferPoint}
use Rattle.twkb_arrays.specs.FilledArrays.{EndsReading, ReadsArrays, outcome_of}
use Rattle.twkb_arrays.specs.Rows.{AreSameRows}
use Rattle.twkb_arrays.specs.SentBlobs.{are_more}
use Rattle.twkb_arrays.specs.declared.filled_arrays.BufferCounts.{BufferCounts}
use Rattle.twkb_arrays.specs.declared.row.BufferRow.{BufferRow}
use Rattle.twkb_arrays.proofs.ArrayLemmas.{no_more}

-- how the reading of a stream may end
by_answer : (l : Allowance) (bytes : List ℕ) (hs gs : List Tree) (full : Bool)
    (answer : Result (Unit {0}) BlobFault) (status : ℕ) → status ≡ (outcome_of full answer).0
    → EndsReading l bytes hs answer → Stream l bytes gs → length bytes ≤ MAX_BYTES
    → (status ≡ 4) ⊎ ((hs ≡ gs) × (status ≢ 1))
by_answer l bytes hs gs false (Ok done) status is ends s few = inr
    (one_stream l bytes hs gs ends s, λ e. omega (arith, is, e))
by_answer l bytes hs gs true (Ok done) status is ends s few = inr
    (one_stream l bytes hs gs ends s, λ e. omega (arith, is, e))
by_answer l bytes hs gs full (Err (fault.Device why)) status is ends s few =
    let long = ends.0 in
    absurd (omega (arith, long, few))
by_answer l bytes hs gs full (Err (fault.At offset reason)) status is ends s few =
    absurd (no_stream l ends.front ends.rest hs gs ends.within (reason_of reason) ends.blobs ends.first.fault
    (subst (λ (b : List ℕ). Stream l b gs) ends.whole s))
by_answer l bytes hs gs full (Err _) status is ends s few = inl is

pub all_read : (l : Allowance) (bytes : List ℕ) (old_rows new_rows : List BufferRow)
    (old_points new_points : List BufferPoint) (old_ends new_ends : List ℕ) (counts : BufferCounts) (gs : List Tree)
    (read : ReadsArrays l bytes old_rows old_points old_ends new_rows new_points new_ends counts)
    → Stream l bytes gs → length bytes ≤ MAX_BYTES
    → (counts.status ≡ 4) ⊎ ((read.given ++ read.later ≡ gs) × (counts.status ≢ 1))
all_read l bytes old_rows new_rows old_points new_points old_ends new_ends counts gs read s few =
    by_answer l bytes (read.given ++ read.later) gs (are_more read.later) read.answer counts.status
    read.counted.status_is read.ended s few

-- a reading with status 0 had room for all, and came to the end of a stream
pub status_zero : (l : Allowance) (bytes : List ℕ) (gs : List Tree) (full : Bool)
    (answer : Result (Unit {0}) BlobFault) → (outcome_of full answer).0 ≡ 0 → EndsReading l bytes gs answer
    → (full ≡ false) × Stream l bytes gs
status_zero l bytes gs false (Ok done) e ends = (refl, ends)
status_zero l bytes gs true (Ok done) e ends = absurd (omega (arith, e))
status_zero l bytes gs full (Err fault.Memory) e ends = absurd (omega (arith, e))
status_zero l bytes gs false (Err _) e ends = absurd (omega (arith, e))
status_zero l bytes gs full (Err _) e ends = absurd (omega (arith, e))

-- a reading with status 0 took the geometries of the stream
pub all_given : {l : Allowance} {bytes : List ℕ} {old_rows new_rows : List BufferRow}
    {old_points new_points : List BufferPoint} {old_ends new_ends : List ℕ} {counts : BufferCounts} (gs : List Tree)
    (read : ReadsArrays l bytes old_rows old_points old_ends new_rows new_points new_ends counts) → counts.status ≡ 0
    → Stream l bytes gs → read.given ≡ gs
all_given {l = l} {bytes = bytes} gs read zero stream =
    let end = status_zero l bytes (read.given ++ read.later) (are_more read.later) read.answer
    (sym read.counted.status_is ∙ zero) read.ended in
    sym (append-nil read.given)
    ∙ rw (no_more read.later end.0) at (one_stream l bytes (read.given ++ read.later) gs end.1
    stream)

pub rows_of_text : (l : Allowance) (bytes : List ℕ) (old_rows new_rows : List BufferRow)
    (old_points new_points : List BufferPoint) (old_ends new_ends : List ℕ) (counts : BufferCounts)
    (text : List ℕ) (done taken : ℕ)
    → ReadsArrays l bytes old_rows old_points old_ends new_rows new_points new_ends counts → counts.status ≡ 0
    → (outputs_of Unpack l bytes).IsWhole text done taken → AreSameRows text old_rows old_points new_rows new_points
rows_of_text l bytes old_rows new_rows old_points new_points old_ends new_ends counts text done taken read zero
    unpacked = record {
      rs = rows_of read.given;
      text_is = unpacked.written_is
          ∙ ap table_text (sym (all_given unpacked.found read zero unpacked.stream_is));
      rows_are = read.filled.rows_are;
      points_are = read.filled.points_are;
    }

-- the number of a reason of the grammar
pub fault_number : grammar.Reason → ℕ
fault_number grammar.Truncated = 41
fault_number grammar.BadType = 42
fault_number grammar.ExtraDimensions = 43
fault_number grammar.BadVarint = 44
fault_number grammar.TooDeep = 45
fault_number grammar.TooManyNodes = 46
fault_number grammar.TooManyPoints = 47
fault_number grammar.CoordinateRange = 48
fault_number grammar.SizeMismatch = 49

-- a reason has the number of the grammar's
pub number_is : (r : BlobReason) → blob_number_of r ≡ fault_number (reason_of r)
unfolding fault_number
number_is blob.Truncated = refl
number_is blob.BadType = refl
number_is blob.ExtraDimensions = refl
number_is blob.BadVarint = refl
number_is blob.TooDeep = refl
number_is blob.TooManyNodes = refl
number_is blob.TooManyPoints = refl
number_is blob.CoordinateRange = refl
number_is blob.SizeMismatch = refl

-- a stream has one fault, whose reason and place a refusal states
by_fault : (l : Allowance) (bytes : List ℕ) (gs hs : List Tree) (full : Bool)
    (answer : Result (Unit {0}) BlobFault) (offset : ℕ) (r : BlobReason) → (outcome_of full answer).0 ≡ 1
    → EndsReading l bytes gs answer → length bytes ≤ MAX_BYTES → StreamFault l bytes hs offset (reason_of r)
    → ((outcome_of full answer).1 ≡ blob_number_of r) × ((outcome_of full answer).2 ≡ offset)
by_fault l bytes gs hs false (Ok done) offset r e ends few f = absurd (omega (arith, e))
by_fault l bytes gs hs true (Ok done) offset r e ends few f = absurd (omega (arith, e))
by_fault l bytes gs hs full (Err fault.Memory) offset r e ends few f = absurd (omega (arith, e))
by_fault l bytes gs hs false (Err (fault.Device why)) offset r e ends few f =
    let long = ends.0 in
    absurd (omega (arith, long, few))
by_fault l bytes gs hs false (Err (fault.At place q)) offset r e ends few f =
    let one = one_stream_fault l bytes gs hs place offset (reason_of q) (reason_of r) ends f in
    (number_is q ∙ ap fault_number one.2 ∙ sym (number_is r), one.1)
by_fault l bytes gs hs full (Err _) offset r e ends few f = absurd (omega (arith, e))

pub refused_alike : (l : Allowance) (bytes : List ℕ) (old_rows new_rows : List BufferRow)
    (old_points new_points : List BufferPoint) (old_ends new_ends : List ℕ) (counts : BufferCounts)
    (text : List ℕ) (done taken : ℕ) (why : Cause)
    (report : BufferReport) → ReadsArrays l bytes old_rows old_points old_ends new_rows new_points new_ends counts
    → counts.status ≡ 1 → length bytes ≤ MAX_BYTES → (outputs_of Unpack l bytes).IsFront text done taken why
    → IsRefusal why → Tells report why → (counts.reason ≡ report.reason) × (counts.place ≡ report.place)
refused_alike l bytes old_rows new_rows old_points new_points old_ends new_ends counts text done taken
    (cause.Blob offset r) report read one
    few front refused tells =
    let same = by_fault l bytes (read.given ++ read.later) front.part.whole (are_more read.later) read.answer offset r
    (sym read.counted.status_is ∙ one) read.ended few front.explains.2 in (
      read.counted.reason_is ∙ same.0 ∙ sym tells.reason,
      read.counted.place_is ∙ same.1 ∙ sym tells.place,
    )
refused_alike l bytes old_rows new_rows old_points new_points old_ends new_ends counts text done taken
    (cause.Row number r) report read one
    few front refused tells = absurd front.explains
refused_alike l bytes old_rows new_rows old_points new_points old_ends new_ends counts text done taken _ report
    read one few
    front refused tells =
    absurd refused
