-- The results of packing a column of a CSV.
use Rattle.std.specs.Prelude.{ℕ, List, Option, Some, None, Result, Ok, Err, ◌≡◌, ◌≢◌, false, is_some}
use Rattle.std.specs.Io.KnownBytes.{IsAtEnd}
use Rattle.csv.specs.Reading.{AreRecords, strip_bom}
use Rattle.csv.specs.declared.parser.State.TheVariants.{StartRecord}
use Rattle.twkb_io.specs.declared.tap.Tap.{Tap}
use Rattle.twkb_io.specs.Taps.{device_of, failures_of, has_unflushed}
use Rattle.twkb_csv.specs.Machine.{config}
use Rattle.twkb_csv.specs.Named.{Record, named, text_of}
use Rattle.twkb_csv.specs.declared.column.Column.{Column}
use Rattle.twkb_tree.specs.Limits.{Allowance}
use Rattle.twkb_grammar.specs.declared.style.Style.{Style}
use Rattle.twkb_convert.specs.Causes.{Changes, DevicesTell}
use Rattle.twkb_convert.specs.Outputs.{PackTo}
use Rattle.twkb_convert.specs.declared.report.Cause.{Cause}
use Rattle.twkb_convert.specs.declared.report.Cause.TheVariants as cause
use Rattle.twkb_convert.specs.declared.report.Report.{Report}
use Rattle.twkb_column.specs.Causes.{cause_of, records_taken}
use Rattle.twkb_column.specs.Tables.{PackedTable, StoppedTable}
use Rattle.twkb_column.specs.declared.fault.ColumnCause.TheVariants.{Pack}
use Rattle.twkb_column.specs.declared.fault.ColumnFault.{ColumnFault}

-- ==== The table that a CSV names.

-- These are all the records of a CSV: quotes and line ends as in RFC 4180, fields separated by the column's delimiter,
-- and a byte order mark before them passed over (profile).
abbrev pub AreRecordsOfCsv : Column → List ℕ → List Record → Type 0
AreRecordsOfCsv column bytes records = AreRecords (config column.delimiter) StartRecord (strip_bom bytes) records

-- the text is that of the table which the records of a CSV name; it is known if the bytes of the CSV are
abbrev pub NamesText : Column → Option (List ℕ) → Option (List ℕ) → Type 0
NamesText column None text = text ≡ None
NamesText column (Some bytes) text =
    (records : List Record) × AreRecordsOfCsv column bytes records × (text ≡ Some (text_of (named column records)))

-- a CSV is packed to these bytes if the table that its records name is
abbrev pub PackColumnTo : Style → Allowance → Column → List ℕ → List ℕ → Type 0
PackColumnTo style l column csv bytes =
    (records : List Record) × AreRecordsOfCsv column csv records × PackTo style l (named column records) bytes

-- ==== The result of packing a column.

-- All bytes of the reader are a CSV whose records name a table of geometries, and their canonical stream in this style
-- was written after the bytes that the writer held. No device failed, and the reader is at its end.
pub record PackedColumn {R W : Type 0} (style : Style) (l : Allowance) (column : Column)
    (remaining : R → Option (List ℕ)) (contents : W → Option (List ℕ)) (reader : Tap R) (writer : Tap W)
    (report : Report) (read : Tap R) (written : Tap W) : Type 0 where
  pub text : Option (List ℕ)
  pub names : NamesText column (remaining (device_of reader)) text
  pub records : ℕ
  pub packed : PackedTable style l text contents writer (record report { taken = records }) written
  pub taken : report.taken ≡ records_taken (is_some column.ids) records
  pub end : IsAtEnd (remaining (device_of read))
  pub reads : failures_of read ≡ failures_of reader

-- The writer took canonical blobs of geometries of the table that the CSV names, which may be written, and a prefix of
-- the next blob. The fault has the cause of `pack` over that table, in the words of the CSV; it explains why the
-- writing stopped there, and agrees with the failures that the taps counted.
pub record StoppedColumn {R W : Type 0} (style : Style) (l : Allowance) (column : Column)
    (remaining : R → Option (List ℕ)) (contents : W → Option (List ℕ)) (reader : Tap R) (writer : Tap W)
    (fault : ColumnFault) (read : Tap R) (written : Tap W) : Type 0 where
  pub text : Option (List ℕ)
  pub names : NamesText column (remaining (device_of reader)) text
  pub why : Cause
  pub told : fault.cause ≡ cause_of (is_some column.ids) why
  pub records : ℕ
  pub stopped : StoppedTable style l text contents writer fault.done fault.sent records why written
  pub taken : fault.taken ≡ records_taken (is_some column.ids) records
  pub devices : DevicesTell Changes reader writer why read written

-- ==== What is flushed.

-- No byte that the writer took is unflushed, unless the cause is that a device failed, that memory was refused, which
-- may be while the CSV was read, or that too much would be written.
abbrev pub IsFlushedButForReads : {T W : Type 0} → Result T ColumnFault → Tap W → Type 0
IsFlushedButForReads (Ok report) writer = has_unflushed writer ≡ false
IsFlushedButForReads (Err fault) writer = fault.cause ≢ Pack cause.WriteDevice → fault.cause ≢ Pack cause.ReadDevice
    → fault.cause ≢ Pack cause.Memory → fault.cause ≢ Pack cause.TooLong → has_unflushed writer ≡ false
