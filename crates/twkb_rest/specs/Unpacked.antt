-- The result of unpacking a column.
use Rattle.std.specs.Prelude.{ℕ, ◌≡◌, ◌≢◌, ◌⊎◌, List, [], length, Option}
use Rattle.std.specs.Prelude.{IfSome, Result, Ok, Err, false, codes, None, Some}
use Rattle.std.specs.Io.KnownBytes.{Appends}
use Rattle.twkb_io.specs.Outputs.{sent_of}
use Rattle.twkb_io.specs.Taps.{device_of, failures_of, has_unflushed}
use Rattle.twkb_io.specs.declared.output.Output.{Output}
use Rattle.twkb_io.specs.declared.tap.Tap.{Tap}
use Rattle.twkb_tree.specs.Tree.{Tree}
use Rattle.twkb_tree.specs.Limits.{Allowance}
use Rattle.twkb_convert.specs.Causes.{CountsOne, DevicesTell}
use Rattle.twkb_convert.specs.Listed.{ExplainsListingCause, Listed}
use Rattle.twkb_convert.specs.Outputs.{Flushes}
use Rattle.twkb_convert.specs.Parts.{FrontOfText, TakesBlobs}
use Rattle.twkb_convert.specs.declared.report.Cause.{Cause}
use Rattle.twkb_convert.specs.declared.report.Cause.TheVariants as cause
use Rattle.twkb_convert.specs.declared.report.Report.{Report}
use Rattle.twkb_rest.specs.Columns.{LineStream, RefusesLine, column_text}
use Rattle.twkb_rest.specs.declared.fault.LineReason.{LineReason}
use Rattle.twkb_rest.specs.declared.fault.LineReason.TheVariants.{NoLinestring, AnotherPrecision}
use Rattle.twkb_rest.specs.declared.fault.UnpackCause.{UnpackCause}
use Rattle.twkb_rest.specs.declared.fault.UnpackCause.TheVariants as column
use Rattle.twkb_rest.specs.declared.fault.UnpackFault.{UnpackFault}

-- the text of a reason (profile)
abbrev pub line_words : LineReason → List ℕ
line_words NoLinestring = codes "no linestring"
line_words AnotherPrecision = codes "another precision"

-- All bytes of the reader are linestrings of one precision, and the writer took the text of their column. The report
-- has the numbers of blobs, of bytes written and of bytes taken, no device failed, and the reader is at its end.
abbrev pub UnpackedColumn : {R W : Type 0} → ℕ → List ℕ → Allowance → (R → Option (List ℕ))
    → (W → Option (List ℕ)) → Tap R → Tap W → Report → Tap R → Tap W → Type 0
UnpackedColumn delimiter name l = Listed (LineStream l) (column_text delimiter name)

-- What a cause says, given the bytes known at the start and at the end, the bytes of the blobs that were read, the
-- text that was written, the blobs whose records were, another blob whose record was not written whole, and the text
-- that is left to be written for all these. A blob that can't be in the column is the first such one. If memory was
-- refused, nothing was written, or the records of whole blobs. Any other cause says what it says of a stream that is
-- listed.
abbrev pub ExplainsUnpackCause : (List Tree → List ℕ) → Allowance → Option (List ℕ) → Option (List ℕ) → List ℕ
    → List ℕ → UnpackCause → List Tree → List Tree → List ℕ → Type 0
ExplainsUnpackCause text_of l old told bytes text (column.Line offset why) whole later left =
    (later ≡ []) × (left ≡ []) × IfSome old (λ all. RefusesLine l all whole offset why)
ExplainsUnpackCause text_of l old told bytes text (column.Stream cause.Memory) whole later left =
    (later ≡ []) × ((left ≡ []) ⊎ (text ≡ []))
ExplainsUnpackCause text_of l old told bytes text (column.Stream why) whole later left =
    ExplainsListingCause (λ trees. trees) text_of l old told bytes why whole later left

-- the taps counted the failures that the cause tells: none, if a blob can't be in the column
abbrev pub DevicesAgree : {R W : Type 0} → Tap R → Tap W → UnpackCause → Tap R → Tap W → Type 0
DevicesAgree reader writer (column.Stream why) read written = DevicesTell CountsOne reader writer why read written
DevicesAgree reader writer (column.Line offset why) read written =
    (failures_of read ≡ failures_of reader) × (failures_of written ≡ failures_of writer)

-- The bytes of the reader begin with blobs of linestrings of one precision, and the writer took a prefix of the text of
-- their column, with the whole records of the first ones. The fault has the number of these (`done`), how many bytes of
-- the input they are (`taken`), the length of the prefix (`sent`), and a cause that explains why the writing stopped
-- there, and agrees with the failures that the taps counted.
pub record StoppedColumn {R W : Type 0} (delimiter : ℕ) (name : List ℕ) (l : Allowance)
    (remaining : R → Option (List ℕ)) (contents : W → Option (List ℕ)) (reader : Tap R) (writer : Tap W)
    (fault : UnpackFault) (read : Tap R) (written : Tap W) : Type 0 where
  pub text : List ℕ
  pub part : FrontOfText (LineStream l) (column_text delimiter name) (remaining (device_of reader)) text
  pub appends : Appends (contents (device_of writer)) (contents (device_of written)) text
  pub done : fault.done ≡ length part.whole
  pub sent : fault.sent ≡ length text
  pub taken : TakesBlobs (LineStream l) part.bytes part.whole fault.taken
  pub explains : ExplainsUnpackCause (column_text delimiter name) l (remaining (device_of reader))
      (remaining (device_of read)) part.bytes text fault.cause part.whole part.later part.left
  pub devices : DevicesAgree reader writer fault.cause read written

-- no byte that the writer took is unflushed, unless the cause is that it failed or that too much would be written
abbrev pub FlushedUnless : {W : Type 0} → UnpackCause → Tap W → Type 0
FlushedUnless (column.Line offset why) writer = has_unflushed writer ≡ false
FlushedUnless (column.Stream why) writer = why ≢ cause.WriteDevice → why ≢ cause.TooLong → has_unflushed writer ≡ false

-- after an `Ok` no byte that the writer took is unflushed; after an `Err` none, unless the cause is that the writer
-- failed or that too much would be written
abbrev pub IsFlushed : {W : Type 0} → Result Report UnpackFault → Tap W → Type 0
IsFlushed (Ok report) writer = has_unflushed writer ≡ false
IsFlushed (Err fault) writer = FlushedUnless fault.cause writer

-- the report or the fault of an answer, with the numbers of blobs and of bytes, and of the blobs' bytes
abbrev pub reported : ℕ → ℕ → ℕ → Result (Option LineReason) Cause → Result Report UnpackFault
reported blobs bytes taken (Ok None) = Ok (record { geometries = blobs; bytes = bytes; taken = taken })
reported blobs bytes taken (Ok (Some why)) =
    Err (record { done = blobs; sent = bytes; taken = taken; cause = column.Line taken why })
reported blobs bytes taken (Err why) =
    Err (record { done = blobs; sent = bytes; taken = taken; cause = column.Stream why })

-- The output was flushed, and its bytes, this number of blobs, their bytes and the answer are reported.
pub record Finishes {W : Type 0} (contents : W → Option (List ℕ)) (old : Output W) (blobs taken : ℕ)
    (sending : Result (Option LineReason) Cause) (new : Output W) (report : Result Report UnpackFault) : Type 0 where
  pub answer : Result (Option LineReason) Cause
  pub flushes : Flushes contents old sending new answer
  pub reports : report ≡ reported blobs (sent_of new) taken answer
