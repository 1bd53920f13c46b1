-- Why packing a column stops: the causes of `pack`, and those of the CSV in place of the rows that stand for them.
use Rattle.std.specs.Prelude.{ℕ, ◌-◌, max, List, codes, Bool, true, false, Result, Ok, Err}
use Rattle.twkb_table.specs.declared.reason.RowReason.{RowReason}
use Rattle.twkb_table.specs.declared.reason.RowReason.TheVariants as row
use Rattle.twkb_convert.specs.Causes as convert
use Rattle.twkb_convert.specs.Causes.{cause_after}
use Rattle.twkb_convert.specs.declared.report.Cause.{Cause}
use Rattle.twkb_convert.specs.declared.report.Cause.TheVariants as cause
use Rattle.twkb_convert.specs.declared.report.ConvertFault.{ConvertFault}
use Rattle.twkb_convert.specs.declared.report.Report.{Report}
use Rattle.twkb_column.specs.Tables.{stopped_with}
use Rattle.twkb_column.specs.declared.fault.ColumnCause.{ColumnCause}
use Rattle.twkb_column.specs.declared.fault.ColumnCause.TheVariants.{Csv, Pack}
use Rattle.twkb_column.specs.declared.fault.ColumnFault.{ColumnFault}
use Rattle.twkb_column.specs.declared.fault.ColumnReason.{ColumnReason}
use Rattle.twkb_column.specs.declared.fault.ColumnReason.TheVariants.{NoSuchColumn, ColumnTwice, FieldCount}
use Rattle.twkb_column.specs.declared.fault.ColumnReason.TheVariants.{MissingValue}

-- ==== The causes.

-- the number of the record of the CSV that names the row with this number; with ids the row of the multilinestring
-- comes after the header, and has its number
abbrev pub record_number : (has_ids : Bool) → ℕ → ℕ
record_number false number = number
record_number true number = max (number - 1) 1

-- the cause to report for the refused row of the table that a CSV names: a reason of the CSV's own if the row stands
-- for a record with that fault
abbrev pub refused_as : (has_ids : Bool) → ℕ → RowReason → ColumnCause
refused_as has_ids number row.BadHeader = Csv (record_number has_ids number) NoSuchColumn
refused_as has_ids number row.BadKind = Csv 1 ColumnTwice
refused_as has_ids number row.FieldCount = Csv (record_number has_ids number) FieldCount
refused_as has_ids number row.BadDepth = Csv (record_number has_ids number) MissingValue
refused_as has_ids number reason = Pack (cause.Row (record_number has_ids number) reason)

-- the cause to report for one of `pack` over that table
abbrev pub cause_of : (has_ids : Bool) → Cause → ColumnCause
cause_of has_ids (cause.Row number reason) = refused_as has_ids number reason
cause_of has_ids why = Pack why

-- the number of records of the CSV that name so many records of the table
abbrev pub records_taken : (has_ids : Bool) → ℕ → ℕ
records_taken false taken = taken
records_taken true taken = taken - 1

-- the fault to report for one of `pack`, given whether a read of the CSV failed: if one did, the failed read, unless a
-- write failed; if none did, want of memory in place of a failed read
abbrev pub fault_after : (has_ids failed : Bool) → ConvertFault → ColumnFault
fault_after has_ids failed fault = record {
  done = fault.done;
  sent = fault.sent;
  taken = records_taken has_ids fault.taken;
  cause = cause_of has_ids (cause_after failed fault.cause);
}

-- the answer to report for one of `pack`, given whether a read of the CSV failed
abbrev pub told : (has_ids failed : Bool) → Result Report ConvertFault → Result Report ColumnFault
told has_ids true (Ok report) = Err (fault_after has_ids true (stopped_with report cause.ReadDevice))
told has_ids false (Ok report) = Ok (record report { taken = records_taken has_ids report.taken })
told has_ids failed (Err fault) = Err (fault_after has_ids failed fault)

-- ==== The text of each cause, without its place (profile).

-- what is wrong with a record of a CSV, in words
abbrev pub reason_words : ColumnReason → List ℕ
reason_words NoSuchColumn = codes "no such column"
reason_words ColumnTwice = codes "column twice"
reason_words FieldCount = codes "wrong number of fields"
reason_words MissingValue = codes "missing value"

-- why packing stopped, without the place
abbrev pub cause_words : ColumnCause → List ℕ
cause_words (Csv number reason) = reason_words reason
cause_words (Pack why) = convert.cause_words why
