-- Packing a table that any reader gives, and reading a reader to its end.
use Rattle.std.specs.Prelude.{ℕ, List, [], Option, Result, Ok, Err, ◌≡◌, ◌⊎◌, ◌<◌, ◌++◌, length}
use Rattle.std.specs.Io.KnownBytes.{Appends, IsAtEnd}
use Rattle.twkb_io.specs.declared.TheConstants.{MAX_BYTES}
use Rattle.twkb_io.specs.declared.tap.Tap.{Tap}
use Rattle.twkb_io.specs.Taps.{count_failure, device_of, failures_of}
use Rattle.twkb_tree.specs.Tree.{Tree}
use Rattle.twkb_tree.specs.Limits.{Allowance}
use Rattle.twkb_grammar.specs.Written.{canonical_stream}
use Rattle.twkb_grammar.specs.declared.style.Style.{Style}
use Rattle.twkb_convert.specs.Causes.{is_write}
use Rattle.twkb_convert.specs.Outputs.{AtMostOneCut}
use Rattle.twkb_convert.specs.Packed.{ExplainsPackingCause}
use Rattle.twkb_convert.specs.Parts.{FrontOfBlobs, NamesAll, WholeTable, records_of}
use Rattle.twkb_convert.specs.declared.report.Cause.{Cause}
use Rattle.twkb_convert.specs.declared.report.Cause.TheVariants as cause
use Rattle.twkb_convert.specs.declared.report.ConvertFault.{ConvertFault}
use Rattle.twkb_convert.specs.declared.report.Report.{Report}

-- ==== The result of packing a table, by its text.

-- The records of the text name geometries, and their canonical stream in this style was written after the bytes that
-- the writer held. No write failed.
pub record PackedTable {W : Type 0} (style : Style) (l : Allowance) (text : Option (List ℕ))
    (contents : W → Option (List ℕ)) (writer : Tap W) (report : Report) (written : Tap W) : Type 0 where
  pub table : WholeTable l text
  pub appends : Appends (contents (device_of writer)) (contents (device_of written))
      (canonical_stream style table.geometries)
  pub count : report.geometries ≡ length table.geometries
  pub bytes : report.bytes ≡ length (canonical_stream style table.geometries)
  pub taken : report.taken ≡ records_of table.geometries
  pub writes : failures_of written ≡ failures_of writer

-- What a cause says about the table and the bytes written, as `ExplainsPackingCause` has it, with less for two of them.
-- Memory, which may be refused while the table's text is made: a blob is cut only if the output would also be too long.
-- TooLong: the output would be too long, or all geometries of the table were written.
abbrev pub Explains : Style → Allowance → Option (List ℕ) → Cause → List Tree → List Tree → List ℕ → Type 0
Explains style l text cause.Memory whole later front =
    ExplainsPackingCause style l text 0 cause.ReadDevice whole later front
Explains style l text cause.TooLong whole later front =
    (MAX_BYTES < length (canonical_stream style (whole ++ later)))
    ⊎ ((later ≡ []) × (front ≡ []) × NamesAll l text whole)
Explains style l text why whole later front = ExplainsPackingCause style l text 0 why whole later front

-- The writer took canonical blobs of geometries of the table that may be written, and a prefix of the next blob.
pub record StoppedTable {W : Type 0} (style : Style) (l : Allowance) (text : Option (List ℕ))
    (contents : W → Option (List ℕ)) (writer : Tap W) (done sent taken : ℕ) (why : Cause) (written : Tap W)
    : Type 0 where
  pub bytes : List ℕ
  pub part : FrontOfBlobs style l text bytes
  pub one : AtMostOneCut part.later part.rest
  pub appends : Appends (contents (device_of writer)) (contents (device_of written)) bytes
  pub sent_is : sent ≡ length bytes
  pub done_is : done ≡ length part.whole
  pub taken_is : taken ≡ records_of part.whole
  pub explains : Explains style l text why part.whole part.later part.front
  pub writes : failures_of written ≡ count_failure (is_write {A = Report} (Err why)) (failures_of writer)

-- the result of packing a table: the whole table was packed, or it stopped
abbrev pub PacksTable : {W : Type 0} → Style → Allowance → Option (List ℕ) → (W → Option (List ℕ)) → Tap W → Tap W
    → Result Report ConvertFault → Type 0
PacksTable style l text contents writer written (Ok report) = PackedTable style l text contents writer report written
PacksTable style l text contents writer written (Err fault) =
    StoppedTable style l text contents writer fault.done fault.sent fault.taken fault.cause written

-- ==== Reading to the end.

-- the end was reached, or a read failed, or 2^64 - 1 reads gave bytes
abbrev pub Drains : Option (List ℕ) → Result (Unit {0}) Cause → Type 0
Drains left (Ok done) = IsAtEnd left
Drains left (Err why) = (why ≡ cause.ReadDevice) ⊎ (why ≡ cause.TooLong)

-- the fault of a conversion that wrote what a report says, and stopped then
abbrev pub stopped_with : Report → Cause → ConvertFault
stopped_with report why = record {
  done = report.geometries;
  sent = report.bytes;
  taken = report.taken;
  cause = why;
}

-- the answer of `pack` after its reader was read to the end, by the bytes left
abbrev pub EndsReading : Option (List ℕ) → Result Report ConvertFault → Result Report ConvertFault → Type 0
EndsReading left (Ok report) (Ok again) = (again ≡ report) × IsAtEnd left
EndsReading left (Ok report) (Err fault) =
    (why : Cause) × ((why ≡ cause.ReadDevice) ⊎ (why ≡ cause.TooLong)) × (fault ≡ stopped_with report why)
EndsReading left (Err fault) answer = answer ≡ Err fault
