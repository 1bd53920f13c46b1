-- The causes for which a conversion stops, their texts, and the devices that failed.
use Rattle.std.specs.Prelude.{Bool, true, false, Result, Ok, Err, ℕ, ◌≡◌, ◌≢◌, List, codes}
use Rattle.twkb_flat.specs.declared.stop.Stop.{Stop}
use Rattle.twkb_flat.specs.declared.stop.Stop.TheVariants as stop
use Rattle.twkb_io.specs.declared.output.OutFault.{OutFault}
use Rattle.twkb_io.specs.declared.output.OutFault.TheVariants as out
use Rattle.twkb_io.specs.declared.tap.Tap.{Tap}
use Rattle.twkb_io.specs.Taps.{count_failure, failures_of}
use Rattle.twkb_polyline.specs.Fault.{point_text_words}
use Rattle.twkb_engine.specs.Texts.{blob_words}
use Rattle.twkb_hex.specs.declared.report.HexCause.{HexCause}
use Rattle.twkb_hex.specs.declared.report.HexCause.TheVariants as cause
use Rattle.twkb_hex.specs.declared.report.HexReason.{HexReason}
use Rattle.twkb_hex.specs.declared.report.HexReason.TheVariants as reason

-- ==== The text of each reason and cause, without its place (profile).

-- why a record is refused
abbrev pub reason_words : HexReason → List ℕ
reason_words reason.NoColumn = codes "no such column"
reason_words reason.ColumnTwice = codes "column twice"
reason_words reason.FieldCount = codes "wrong number of fields"
reason_words reason.MissingValue = codes "missing value"
reason_words reason.BadPrecision = codes "bad precision"
reason_words (reason.Polyline offset why) = point_text_words why
reason_words (reason.NoDigits at) = codes "no hexadecimal digits"
reason_words (reason.OddDigits at) = codes "odd number of digits"
reason_words (reason.Blob offset why) = blob_words why
reason_words reason.NoLinestring = codes "no linestring"
reason_words (reason.MoreBlobs at) = codes "more than one blob"

-- why a conversion stopped
abbrev pub cause_words : HexCause → List ℕ
cause_words (cause.Record number why) = reason_words why
cause_words cause.ReadDevice = codes "read failed"
cause_words cause.WriteDevice = codes "write failed"
cause_words cause.Memory = codes "out of memory"
cause_words cause.TooLong = codes "input or output too long"

-- ==== The causes that faults of parts are for a caller.

-- the cause to report for a fault of an output, which is called no more after a refusal
abbrev pub cause_of_output : OutFault → HexCause
cause_of_output out.Write = cause.WriteDevice
cause_of_output out.Stuck = cause.WriteDevice
cause_of_output out.TooLong = cause.TooLong
cause_of_output out.Spent = cause.TooLong

-- the cause to report if the record with this number was not converted
abbrev pub cause_at : ℕ → Stop HexReason → HexCause
cause_at number stop.Memory = cause.Memory
cause_at number (stop.Refused why) = cause.Record number why

-- the cause to report, given whether a read failed: if one did, the failed read, unless a write
-- failed; if none did, want of memory in place of a failed read
abbrev pub cause_after : Bool → HexCause → HexCause
cause_after failed cause.WriteDevice = cause.WriteDevice
cause_after true why = cause.ReadDevice
cause_after false cause.ReadDevice = cause.Memory
cause_after false why = why

-- the answer to report, given whether a read failed
abbrev pub after_reads : {A : Type 0} → Bool → Result A HexCause → Result A HexCause
after_reads true (Ok done) = Err cause.ReadDevice
after_reads false (Ok done) = Ok done
after_reads failed (Err why) = Err (cause_after failed why)

-- ==== Which devices failed in a run, as their taps count it, and what the cause says about that.

-- the cause is a device's exactly if one failed: a failed write or flush comes before a failed read
abbrev pub IsDeviceCause : Bool → Bool → HexCause → Type 0
IsDeviceCause read true why = why ≡ cause.WriteDevice
IsDeviceCause true false why = why ≡ cause.ReadDevice
IsDeviceCause false false why = (why ≢ cause.ReadDevice) × (why ≢ cause.WriteDevice)

-- whether the answer is that a write or a flush failed
abbrev pub is_write : {A : Type 0} → Result A HexCause → Bool
is_write (Err cause.WriteDevice) = true
is_write _ = false

-- the count changed exactly if there were failures
abbrev pub Changes : Bool → ℕ → ℕ → Type 0
Changes true before after = after ≢ before
Changes false before after = after ≡ before

-- The taps counted failed reads, and a failed write or flush, and the cause agrees.
pub record DevicesTell {R W : Type 0} (reader : Tap R) (writer : Tap W) (why : HexCause)
    (read : Tap R) (written : Tap W) : Type 0 where
  pub read_failed : Bool
  pub write_failed : Bool
  pub reads : Changes read_failed (failures_of reader) (failures_of read)
  pub writes : failures_of written ≡ count_failure write_failed (failures_of writer)
  pub tell : IsDeviceCause read_failed write_failed why
