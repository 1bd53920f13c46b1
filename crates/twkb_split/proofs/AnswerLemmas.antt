-- The causes for which no piece was made.
use Rattle.std.proofs.Common.{◌≡◌, ◌≤◌, ℕ, List, Option, true, refl, inl, inr}
use Rattle.std.specs.Borrow.{MutBor}
use Rattle.csv.specs.declared.reader.Reader.{Reader}
use Rattle.twkb_flat.specs.Taking.{IfRefused}
use Rattle.twkb_flat.specs.declared.stop.Stop.{Stop}
use Rattle.twkb_flat.specs.declared.stop.Stop.TheVariants as stop
use Rattle.twkb_io.specs.declared.tap.Tap.{Tap}
use Rattle.twkb_csv.specs.Named.{Record}
use Rattle.twkb_table.specs.declared.numbered_records.TheConstants.{RECORD_CAP}
use Rattle.twkb_convert.specs.declared.report.Cause.TheVariants as cause
use Rattle.twkb_column.specs.declared.fault.ColumnCause.{ColumnCause}
use Rattle.twkb_column.specs.declared.fault.ColumnCause.TheVariants.{Pack}
use Rattle.twkb_records.specs.Records.{ReadsNext}
use Rattle.twkb_records.specs.Rows.{found_in}
use Rattle.twkb_split.specs.Causes.{cause_at}
use Rattle.twkb_split.specs.Pieces.{RefusesHeader, RefusesRow}
use Rattle.twkb_split.specs.Sending.{IsHeaderCause, IsRowCause, MissesHeader, MissesRow}
use Rattle.twkb_split.specs.declared.causes.RecordReason.{RecordReason}
use Rattle.twkb_split.specs.declared.packing.Packing.{Packing}

header_cause : (name : List ℕ) (header : Record) (s : Stop RecordReason)
    → IfRefused (RefusesHeader (found_in name header)) s → IsHeaderCause name header (cause_at 1 s)
header_cause name header stop.Memory h = inl refl
header_cause name header (stop.Refused why) h = inr (why, refl, h)

-- the header was not put
pub header_missed : {R : Type 0} (name : List ℕ) (remaining : R → Option (List ℕ)) (old new : Reader (MutBor (Tap R)))
    (header : Record) (s : Stop RecordReason) (why : ColumnCause) → ReadsNext remaining old true header new
    → IfRefused (RefusesHeader (found_in name header)) s → why ≡ cause_at 1 s
    → MissesHeader name remaining old why new
header_missed name remaining old new header s why reads refused is =
    rw is (inr (inr (header, reads, header_cause name header s refused)))

row_cause : (p : Packing) (place width number : ℕ) (row : Record) (s : Stop RecordReason)
    → IfRefused (RefusesRow p place width row) s → IsRowCause p place width number row (cause_at number s)
row_cause p place width number row stop.Memory h = inl refl
row_cause p place width number row (stop.Refused why) h = inr (inr (why, refl, h))

-- the piece of a record was not made
pub row_missed : {R : Type 0} (p : Packing) (place width number : ℕ) (remaining : R → Option (List ℕ))
    (old new : Reader (MutBor (Tap R))) (row : Record) (s : Stop RecordReason) (why : ColumnCause)
    → ReadsNext remaining old true row new → IfRefused (RefusesRow p place width row) s
    → why ≡ cause_at number s → MissesRow p place width number remaining old why new
row_missed p place width number remaining old new row s why reads refused is =
    rw is (inr (row, reads, row_cause p place width number row s refused))

-- there are too many records
pub many_missed : {R : Type 0} (p : Packing) (place width number : ℕ) (remaining : R → Option (List ℕ))
    (old new : Reader (MutBor (Tap R))) (row : Record) → ReadsNext remaining old true row new → RECORD_CAP ≤ number
    → MissesRow p place width number remaining old (Pack cause.TooManyRecords) new
many_missed p place width number remaining old new row reads far = inr (row, reads, inr (inl (refl, far)))
