-- The causes for which a conversion stops, their texts, and the devices that failed.
use Rattle.std.specs.Prelude.{Bool, true, false, Result, Ok, Err, ℕ, ◌≡◌, ◌≢◌, ◌≤◌, ◌-◌, ◌^◌, ◌⊎◌, List, Option}
use Rattle.std.specs.Prelude.{codes}
use Rattle.twkb_blob.specs.declared.fault.BlobFault.{BlobFault}
use Rattle.twkb_blob.specs.declared.fault.BlobFault.TheVariants as blob
use Rattle.twkb_io.specs.declared.input.InFault.TheVariants as input
use Rattle.twkb_io.specs.declared.output.OutFault.{OutFault}
use Rattle.twkb_io.specs.declared.output.OutFault.TheVariants as out
use Rattle.twkb_table.specs.declared.table_fault.TableFault.{TableFault}
use Rattle.twkb_table.specs.declared.table_fault.TableFault.TheVariants as table
use Rattle.twkb_convert.specs.declared.report.Cause.{Cause}
use Rattle.twkb_convert.specs.declared.report.Cause.TheVariants as cause
use Rattle.twkb_io.specs.Taps.{count_failure, failures_of}
use Rattle.twkb_io.specs.declared.tap.Tap.{Tap}
use Rattle.std.specs.Io.KnownBytes.{IsAtEnd}
use Rattle.twkb_table.specs.RowFault.{row_words}
use Rattle.twkb_engine.specs.Texts.{blob_words}

-- ==== The causes that faults of readers and outputs are for a caller.

-- the cause to report for a fault of a reader of blobs, which is called no more after a refusal
abbrev pub cause_of_blob : BlobFault → Cause
cause_of_blob blob.Memory = cause.Memory
cause_of_blob (blob.Device input.Read) = cause.ReadDevice
cause_of_blob (blob.Device input.TooLong) = cause.TooLong
cause_of_blob (blob.Device input.Spent) = cause.TooLong
cause_of_blob blob.Spent = cause.TooLong
cause_of_blob (blob.At offset reason) = cause.Blob offset reason

-- the cause to report for a fault of a reader of tables, which is called no more after a refusal
abbrev pub cause_of_table : TableFault → Cause
cause_of_table (table.At number reason) = cause.Row number reason
cause_of_table table.TooManyRecords = cause.TooManyRecords
cause_of_table table.Source = cause.ReadDevice
cause_of_table table.Memory = cause.Memory
cause_of_table table.Spent = cause.Memory

-- the cause to report for a fault of an output, which is called no more after a refusal
abbrev pub cause_of_output : OutFault → Cause
cause_of_output out.Write = cause.WriteDevice
cause_of_output out.Stuck = cause.WriteDevice
cause_of_output out.TooLong = cause.TooLong
cause_of_output out.Spent = cause.TooLong

-- the cause to report, given whether a read failed: if one did, the failed read, unless a write
-- failed; if none did, want of memory in place of a failed read
abbrev pub cause_after : Bool → Cause → Cause
cause_after failed cause.WriteDevice = cause.WriteDevice
cause_after true why = cause.ReadDevice
cause_after false cause.ReadDevice = cause.Memory
cause_after false why = why

-- the answer to report, given whether a read failed
abbrev pub after_reads : {A : Type 0} → Bool → Result A Cause → Result A Cause
after_reads true (Ok done) = Err cause.ReadDevice
after_reads false (Ok done) = Ok done
after_reads failed (Err why) = Err (cause_after failed why)

-- ==== Which devices failed in a run, as their taps count it, and what the cause says about that.

-- the cause is a device's exactly if one failed: a failed write or flush comes before a failed read
abbrev pub IsDeviceCause : Bool → Bool → Cause → Type 0
IsDeviceCause read true why = why ≡ cause.WriteDevice
IsDeviceCause true false why = why ≡ cause.ReadDevice
IsDeviceCause false false why = (why ≢ cause.ReadDevice) × (why ≢ cause.WriteDevice)

-- whether the answer is that a write or a flush failed
abbrev pub is_write : {A : Type 0} → Result A Cause → Bool
is_write (Err cause.WriteDevice) = true
is_write _ = false

-- one more failure was counted, if there was one
abbrev pub CountsOne : Bool → ℕ → ℕ → Type 0
CountsOne failed before after = after ≡ count_failure failed before

-- the count changed exactly if there were failures
abbrev pub Changes : Bool → ℕ → ℕ → Type 0
Changes true before after = after ≢ before
Changes false before after = after ≡ before

-- The taps counted failed reads, in this way, and a failed write or flush, and the cause agrees.
pub record DevicesTell {R W : Type 0} (CountsReads : Bool → ℕ → ℕ → Type 0) (reader : Tap R)
    (writer : Tap W) (why : Cause) (read : Tap R) (written : Tap W) : Type 0 where
  pub read_failed : Bool
  pub write_failed : Bool
  pub reads : CountsReads read_failed (failures_of reader) (failures_of read)
  pub writes : failures_of written ≡ count_failure write_failed (failures_of writer)
  pub tell : IsDeviceCause read_failed write_failed why

-- ==== What reading to the end says.

-- the end was reached if all was sent before, or a read failed, or 2^64 - 1 reads gave bytes, by the
-- bytes left and the number of bytes given; a stop before stays
abbrev pub Drains : Option (List ℕ) → ℕ → Result (Unit {0}) Cause → Result (Unit {0}) Cause → Type 0
Drains left given (Ok sent) (Ok done) = IsAtEnd left
Drains left given (Ok sent) (Err why) =
    (why ≡ cause.ReadDevice) ⊎ ((why ≡ cause.TooLong) × (2 ^ 64 - 1 ≤ given))
Drains left given (Err why) answer = answer ≡ Err why

-- ==== The text of each cause for which a conversion stops, without its place (profile).

-- why a conversion stopped, without the place
abbrev pub cause_words : Cause → List ℕ
cause_words (cause.Row number reason) = row_words reason
cause_words (cause.Blob offset reason) = blob_words reason
cause_words cause.ReadDevice = codes "read failed"
cause_words cause.WriteDevice = codes "write failed"
cause_words cause.Memory = codes "out of memory"
cause_words cause.TooLong = codes "input or output too long"
cause_words cause.TooManyRecords = codes "too many records"
