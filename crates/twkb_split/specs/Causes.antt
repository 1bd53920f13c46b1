-- The causes for which a column and its rest are not packed, and the devices that failed.
use Rattle.std.specs.Prelude.{Bool, true, false, Result, Ok, Err, ℕ, ◌≡◌, ◌≢◌, ◌||◌}
use Rattle.twkb_flat.specs.declared.stop.Stop.{Stop}
use Rattle.twkb_flat.specs.declared.stop.Stop.TheVariants as stop
use Rattle.twkb_io.specs.declared.output.OutFault.{OutFault}
use Rattle.twkb_io.specs.declared.output.OutFault.TheVariants as out
use Rattle.twkb_io.specs.declared.tap.Tap.{Tap}
use Rattle.twkb_io.specs.Taps.{count_failure, failures_of}
use Rattle.twkb_table.specs.declared.reason.RowReason.TheVariants as row
use Rattle.twkb_convert.specs.declared.report.Cause.TheVariants as cause
use Rattle.twkb_column.specs.declared.fault.ColumnCause.{ColumnCause}
use Rattle.twkb_column.specs.declared.fault.ColumnCause.TheVariants.{Csv, Pack}
use Rattle.twkb_records.specs.declared.line.LineFault.TheVariants as line
use Rattle.twkb_split.specs.declared.causes.RecordReason.{RecordReason}
use Rattle.twkb_split.specs.declared.causes.RecordReason.TheVariants as reason

-- ==== The causes that faults of parts are for a caller.

-- the cause to report for a fault of an output, which is called no more after a refusal
abbrev pub cause_of_output : OutFault → ColumnCause
cause_of_output out.Write = Pack cause.WriteDevice
cause_of_output out.Stuck = Pack cause.WriteDevice
cause_of_output out.TooLong = Pack cause.TooLong
cause_of_output out.Spent = Pack cause.TooLong

-- the cause to report if the record with this number is refused: in the words of the CSV, or as the row that it names
abbrev pub refused_at : ℕ → RecordReason → ColumnCause
refused_at number (reason.Csv why) = Csv number why
refused_at number (reason.Line line.BadPrecision) = Pack (cause.Row number row.BadPrecision)
refused_at number (reason.Line (line.Polyline offset why)) = Pack (cause.Row number (row.Polyline offset why))

-- the cause to report if the record with this number was not taken
abbrev pub cause_at : ℕ → Stop RecordReason → ColumnCause
cause_at number stop.Memory = Pack cause.Memory
cause_at number (stop.Refused why) = refused_at number why

-- the answer to report, given whether a flush failed
abbrev pub after_flush : {A : Type 0} → Bool → Result A ColumnCause → Result A ColumnCause
after_flush true answer = Err (Pack cause.WriteDevice)
after_flush false answer = answer

-- the cause to report, given whether a read failed: if one did, the failed read, unless a write failed; if none did,
-- want of memory in place of a failed read
abbrev pub cause_after : Bool → ColumnCause → ColumnCause
cause_after failed (Pack cause.WriteDevice) = Pack cause.WriteDevice
cause_after true why = Pack cause.ReadDevice
cause_after false (Pack cause.ReadDevice) = Pack cause.Memory
cause_after false why = why

-- the answer to report, given whether a read failed
abbrev pub after_reads : {A : Type 0} → Bool → Result A ColumnCause → Result A ColumnCause
after_reads true (Ok done) = Err (Pack cause.ReadDevice)
after_reads false (Ok done) = Ok done
after_reads failed (Err why) = Err (cause_after failed why)

-- ==== Which devices failed in a run, as their taps count it, and what the cause says about that.

-- the cause is a device's exactly if one failed: a failed write or flush comes before a failed read
abbrev pub IsDeviceCause : (read write : Bool) → ColumnCause → Type 0
IsDeviceCause read true why = why ≡ Pack cause.WriteDevice
IsDeviceCause true false why = why ≡ Pack cause.ReadDevice
IsDeviceCause false false why = (why ≢ Pack cause.ReadDevice) × (why ≢ Pack cause.WriteDevice)

-- whether the answer is that a write or a flush failed
abbrev pub is_write : {A : Type 0} → Result A ColumnCause → Bool
is_write (Err (Pack cause.WriteDevice)) = true
is_write _ = false

-- the count changed exactly if there were failures
abbrev pub Changes : Bool → ℕ → ℕ → Type 0
Changes true before after = after ≢ before
Changes false before after = after ≡ before

-- The taps counted failed reads, and a failed write or flush of each writer, and the cause agrees.
pub record DevicesTell {R W V : Type 0} (reader : Tap R) (blobs : Tap W) (rest : Tap V) (why : ColumnCause)
    (read : Tap R) (blobs_new : Tap W) (rest_new : Tap V) : Type 0 where
  pub read_failed : Bool
  pub blobs_failed : Bool
  pub rest_failed : Bool
  pub reads : Changes read_failed (failures_of reader) (failures_of read)
  pub blob_writes : failures_of blobs_new ≡ count_failure blobs_failed (failures_of blobs)
  pub rest_writes : failures_of rest_new ≡ count_failure rest_failed (failures_of rest)
  pub tell : IsDeviceCause read_failed (rest_failed || blobs_failed) why
