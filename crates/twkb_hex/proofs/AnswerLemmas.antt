-- The causes for which no text of a record was made.
use Rattle.std.proofs.Common.{◌≡◌, ℕ, List, Option, true, refl, inl, inr}
use Rattle.std.specs.Borrow.{MutBor}
use Rattle.csv.specs.declared.reader.Reader.{Reader}
use Rattle.twkb_flat.specs.Taking.{IfRefused}
use Rattle.twkb_flat.specs.declared.stop.Stop.{Stop}
use Rattle.twkb_flat.specs.declared.stop.Stop.TheVariants as stop
use Rattle.twkb_io.specs.declared.tap.Tap.{Tap}
use Rattle.twkb_csv.specs.Named.{Record}
use Rattle.twkb_hex.specs.Causes.{cause_at}
use Rattle.twkb_hex.specs.Fields.{Way}
use Rattle.twkb_hex.specs.Records.{ReadsNext}
use Rattle.twkb_hex.specs.Rows.{RefusesHeader, RefusesRow, found_in}
use Rattle.twkb_hex.specs.Sending.{IsHeaderCause, IsRowCause, MissesHeader, MissesRow}
use Rattle.twkb_hex.specs.declared.report.HexCause.{HexCause}
use Rattle.twkb_hex.specs.declared.report.HexReason.{HexReason}

header_cause : (name : List ℕ) (header : Record) (s : Stop HexReason)
    → IfRefused (RefusesHeader (found_in name header)) s → IsHeaderCause name header (cause_at 1 s)
header_cause name header stop.Memory h = inl refl
header_cause name header (stop.Refused why) h = inr (why, refl, h)

-- the header was not put
pub header_missed : {R : Type 0} (name : List ℕ) (remaining : R → Option (List ℕ)) (old new : Reader (MutBor (Tap R)))
    (header : Record) (s : Stop HexReason) (why : HexCause) → ReadsNext remaining old true header new
    → IfRefused (RefusesHeader (found_in name header)) s → why ≡ cause_at 1 s
    → MissesHeader name remaining old why new
header_missed name remaining old new header s why reads refused is =
    rw is (inr (inr (header, reads, header_cause name header s refused)))

row_cause : (way : Way) (place width number : ℕ) (row : Record) (s : Stop HexReason)
    → IfRefused (RefusesRow way place width row) s → IsRowCause way place width number row (cause_at number s)
row_cause way place width number row stop.Memory h = inl refl
row_cause way place width number row (stop.Refused why) h = inr (why, refl, h)

-- the text of a record was not made
pub row_missed : {R : Type 0} (way : Way) (place width number : ℕ) (remaining : R → Option (List ℕ))
    (old new : Reader (MutBor (Tap R))) (row : Record) (s : Stop HexReason) (why : HexCause)
    → ReadsNext remaining old true row new → IfRefused (RefusesRow way place width row) s
    → why ≡ cause_at number s → MissesRow way place width number remaining old why new
row_missed way place width number remaining old new row s why reads refused is =
    rw is (inr (row, reads, row_cause way place width number row s refused))
