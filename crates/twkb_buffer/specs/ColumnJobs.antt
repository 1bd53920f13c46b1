-- What the conversions of a column promise over any reader and writer, and what they make of bytes.
use Rattle.std.specs.Prelude.{ℕ, List, Option, Some, Result, Ok, Err, ◌≡◌, ◌⊎◌, length, is_some, IfOk, IfErr}
use Rattle.twkb_io.specs.declared.tap.Tap.{Tap}
use Rattle.twkb_csv.specs.declared.column.Column.{Column}
use Rattle.twkb_tree.specs.Tree.{Tree}
use Rattle.twkb_tree.specs.Limits.{Allowance}
use Rattle.twkb_grammar.specs.Fault.{Reason, StreamFault}
use Rattle.twkb_grammar.specs.declared.style.Style.{Style}
use Rattle.twkb_convert.specs.Outputs.{AtMostOneCut}
use Rattle.twkb_convert.specs.Parts.{FrontOfBlobs, FrontOfText, TakesBlobs, records_of}
use Rattle.twkb_convert.specs.declared.report.Cause.{Cause}
use Rattle.twkb_convert.specs.declared.report.Cause.TheVariants as cause
use Rattle.twkb_convert.specs.declared.report.Report.{Report}
use Rattle.twkb_column.specs.Causes.{cause_of, records_taken}
use Rattle.twkb_column.specs.Packing.{NamesText, PackColumnTo, PackedColumn}
use Rattle.twkb_column.specs.Packing as packing
use Rattle.twkb_column.specs.Tables.{Explains}
use Rattle.twkb_column.specs.declared.fault.ColumnCause.{ColumnCause}
use Rattle.twkb_column.specs.declared.fault.ColumnCause.TheVariants as column
use Rattle.twkb_column.specs.declared.fault.ColumnFault.{ColumnFault}
use Rattle.twkb_rest.specs.Columns.{AreLines, LineStream, RefusesLine, column_text}
use Rattle.twkb_rest.specs.Unpacked.{ExplainsUnpackCause, UnpackedColumn}
use Rattle.twkb_rest.specs.Unpacked as unpacking
use Rattle.twkb_rest.specs.declared.fault.LineReason.{LineReason}
use Rattle.twkb_rest.specs.declared.fault.UnpackCause.{UnpackCause}
use Rattle.twkb_rest.specs.declared.fault.UnpackCause.TheVariants as lines
use Rattle.twkb_rest.specs.declared.fault.UnpackFault.{UnpackFault}
use Rattle.twkb_conversions.specs.Conversions.{ListedStream, PackedTable}
use Rattle.twkb_buffer.specs.declared.column_job.ColumnConversion.{ColumnConversion}
use Rattle.twkb_buffer.specs.declared.column_job.ColumnConversion.TheVariants as conversion
use Rattle.twkb_buffer.specs.declared.column_job.JobCause.{JobCause}
use Rattle.twkb_buffer.specs.declared.column_job.JobCause.TheVariants as job
use Rattle.twkb_buffer.specs.declared.column_job.JobFault.{JobFault}

-- ==== What the conversions of a column promise, over any reader and writer.

-- a result of packing a column, as that of a conversion of one
abbrev pub as_packed : Result Report ColumnFault → Result Report JobFault
as_packed (Ok report) = Ok report
as_packed (Err fault) =
    Err (record { done = fault.done; sent = fault.sent; taken = fault.taken; cause = job.Pack fault.cause })

-- a result of unpacking a column, as that of a conversion of one
abbrev pub as_unpacked : Result Report UnpackFault → Result Report JobFault
as_unpacked (Ok report) = Ok report
as_unpacked (Err fault) =
    Err (record { done = fault.done; sent = fault.sent; taken = fault.taken; cause = job.Unpack fault.cause })

-- The answer is that of packing a column: the whole column was packed, or it stopped.
pub record Packs {R W : Type 0} (style : Style) (column : Column) (l : Allowance) (remaining : R → Option (List ℕ))
    (contents : W → Option (List ℕ)) (reader : Tap R) (writer : Tap W) (read : Tap R) (written : Tap W)
    (answer : Result Report JobFault) : Type 0 where
  pub own : Result Report ColumnFault
  pub same : answer ≡ as_packed own
  pub ok : IfOk own (λ report. PackedColumn style l column remaining contents reader writer report read written)
  pub err : IfErr own (λ fault. packing.StoppedColumn style l column remaining contents reader writer fault read
      written)

-- The answer is that of unpacking a column: that of the whole stream was written, or it stopped.
pub record Unpacks {R W : Type 0} (column : Column) (l : Allowance) (remaining : R → Option (List ℕ))
    (contents : W → Option (List ℕ)) (reader : Tap R) (writer : Tap W) (read : Tap R) (written : Tap W)
    (answer : Result Report JobFault) : Type 0 where
  pub own : Result Report UnpackFault
  pub same : answer ≡ as_unpacked own
  pub ok : IfOk own (λ report. UnpackedColumn column.delimiter column.name.now l remaining contents reader writer report
      read written)
  pub err : IfErr own (λ fault. unpacking.StoppedColumn column.delimiter column.name.now l remaining contents reader
      writer fault read written)

-- the result of the conversion asked for, and its effect on its reader and writer
abbrev pub RunsColumn : {R W : Type 0} → ColumnConversion → Column → Allowance → (R → Option (List ℕ))
    → (W → Option (List ℕ)) → Tap R → Tap W → Tap R → Tap W → Result Report JobFault → Type 0
RunsColumn (conversion.Pack style) column l = Packs style column l
RunsColumn conversion.Unpack column l = Unpacks column l

-- ==== What the conversions of a column make of bytes, whatever reads and writes them.

-- What a conversion makes of an input: its whole output, a prefix of it with the cause that it ends there, and the
-- length of the whole output, even if the input is refused. The first two also state the number of geometries whose
-- output is whole, and how much of the input these are.
pub record ColumnOutputs : Type 1 where
  pub IsWhole : (written : List ℕ) → (done taken : ℕ) → Type 0
  pub IsFront : (written : List ℕ) → (done taken : ℕ) → JobCause → Type 0
  pub HasLength : ℕ → Type 0

-- The records of the CSV name a table of this many geometries, and their canonical stream was written.
pub record PackedCsv (style : Style) (column : Column) (l : Allowance) (csv written : List ℕ) (done taken : ℕ) : Type 0
  where
    pub text : List ℕ
    pub names : NamesText column (Some csv) (Some text)
    pub records : ℕ
    pub packed : PackedTable style l text written done records
    pub taken_is : taken ≡ records_taken (is_some column.ids) records

-- Geometries of the table that the CSV names may be written: the canonical blobs of this many were, and a prefix of the
-- next one's. The cause is that of packing the table, in the words of the CSV, and explains that.
pub record PackedCsvFront (style : Style) (column : Column) (l : Allowance) (csv written : List ℕ) (done taken : ℕ)
    (why : JobCause) : Type 0 where
  pub text : List ℕ
  pub names : NamesText column (Some csv) (Some text)
  pub part : FrontOfBlobs style l (Some text) written
  pub one : AtMostOneCut part.later part.rest
  pub done_is : done ≡ length part.whole
  pub taken_is : taken ≡ records_taken (is_some column.ids) (records_of part.whole)
  pub own : Cause
  pub told : why ≡ job.Pack (cause_of (is_some column.ids) own)
  pub explains : Explains style l (Some text) own part.whole part.later part.front

-- The stream begins with linestrings of one precision, and a prefix of the text of their column was written, with all
-- records of this many of them, which are the bytes taken. The cause explains that.
pub record UnpackedFront (column : Column) (l : Allowance) (stream written : List ℕ) (done taken : ℕ) (why : JobCause)
    : Type 0 where
  pub part : FrontOfText (LineStream l) (column_text column.delimiter column.name.now) (Some stream) written
  pub done_is : done ≡ length part.whole
  pub takes : TakesBlobs (LineStream l) stream part.whole taken
  pub left : Option (List ℕ)
  pub own : UnpackCause
  pub told : why ≡ job.Unpack own
  pub explains : ExplainsUnpackCause (column_text column.delimiter column.name.now) l (Some stream) left part.bytes
      written own part.whole part.later part.left

-- the stream is these linestrings of one precision, or has a refused item, or a blob that can't be in the column, after
-- them
abbrev pub HasLines : Allowance → List ℕ → List Tree → Type 0
HasLines l stream gs = LineStream l stream gs
    ⊎ (AreLines gs × ((offset : ℕ) × (reason : Reason) × StreamFault l stream gs offset reason))
    ⊎ ((offset : ℕ) × (why : LineReason) × RefusesLine l stream gs offset why)

-- the stream has this text: the column of its linestrings or, if one is refused, of those before it
abbrev pub UnpackColumnTo : Column → Allowance → List ℕ → List ℕ → Type 0
UnpackColumnTo column l stream text =
    (gs : List Tree) × HasLines l stream gs × (text ≡ column_text column.delimiter column.name.now gs)

-- the outputs of a CSV whose column is packed
abbrev pub packed_csv : Style → Column → Allowance → List ℕ → ColumnOutputs
packed_csv style column l csv = record {
  IsWhole = PackedCsv style column l csv;
  IsFront = PackedCsvFront style column l csv;
  HasLength = λ count. (bytes : List ℕ) × PackColumnTo style l column csv bytes × (count ≡ length bytes);
}

-- the outputs of a stream that is unpacked to a column
abbrev pub unpacked_csv : Column → Allowance → List ℕ → ColumnOutputs
unpacked_csv column l stream = record {
  IsWhole = ListedStream (LineStream l) (column_text column.delimiter column.name.now) stream;
  IsFront = UnpackedFront column l stream;
  HasLength = λ count. (text : List ℕ) × UnpackColumnTo column l stream text × (count ≡ length text);
}

-- what the conversion asked for makes of this input
abbrev pub column_outputs : ColumnConversion → Column → Allowance → List ℕ → ColumnOutputs
column_outputs (conversion.Pack style) column l = packed_csv style column l
column_outputs conversion.Unpack column l = unpacked_csv column l

-- the bytes written and the numbers counted agree with the answer
abbrev pub JobAnswers : ColumnOutputs → List ℕ → Result Report JobFault → Type 0
JobAnswers outputs written (Ok report) =
    outputs.IsWhole written report.geometries report.taken × (report.bytes ≡ length written)
JobAnswers outputs written (Err fault) =
    outputs.IsFront written fault.done fault.taken fault.cause × (fault.sent ≡ length written)
