-- The header and the records of a rest, read.
use Rattle.std.proofs.Common.{◌≡◌, ◌∙◌, ◌≤◌, ℕ, List, [], ◌∷◌, Option, true, Err, inl, inr, ap}
use Rattle.std.proofs.Common.{arith, length, refl, sym}
use Rattle.std.specs.Borrow.{MutBor}
use Rattle.csv.specs.declared.reader.Reader.{Reader}
use Rattle.twkb_io.specs.declared.tap.Tap.{Tap}
use Rattle.twkb_convert.specs.declared.report.Cause.TheVariants as cause
use Rattle.twkb_records.proofs.TextLemmas.{replaced_past}
use Rattle.twkb_records.specs.Records.{ReadsNext}
use Rattle.twkb_records.specs.Rows.{found_in, replaced}
use Rattle.twkb_records.specs.declared.found.Found.TheVariants.{At}
use Rattle.twkb_rest.specs.JoinSending.{EndsRest, FindsHeader, MissesHeader, RefusesNames}
use Rattle.twkb_rest.specs.Written.{Record, records_text}
use Rattle.twkb_rest.specs.declared.fault.UnpackCause.TheVariants.{Stream}
use Rattle.twkb_rest.specs.declared.join_fault.JoinCause.{JoinCause}
use Rattle.twkb_rest.specs.declared.join_fault.JoinCause.TheVariants.{Column, Rest}
use Rattle.twkb_rest.specs.declared.join_fault.RestReason.{RestReason}
use Rattle.twkb_rest.specs.declared.join_fault.RestReason.TheVariants as rest

module _ {Q : Type 0} (remaining : Q → Option (List ℕ)) (old new : Reader (MutBor (Tap Q))) (row : Record)
    (why : JoinCause) (reads : ReadsNext remaining old true row new) where
  -- there is a record after the stream's end
  pub goes_on : (number : ℕ) → why ≡ Rest number rest.NoBlob → EndsRest number remaining old (Err why) new
  goes_on number is = inr (row, reads, is)

  -- the header is refused
  pub header_refused : (name : List ℕ) (because : RestReason) → why ≡ Rest 1 because
      → RefusesNames (found_in name row) because → MissesHeader name remaining old why new
  header_refused name because is refused = inr (inr (row, reads, inr (because, is, refused)))

  -- memory was refused for the text of the header
  pub header_short : (name : List ℕ) → why ≡ Column (Stream cause.Memory) → MissesHeader name remaining old why new
  header_short name is = inr (inr (row, reads, inl is))

-- the header was read, and its text made
pub header_found : {Q : Type 0} (name : List ℕ) (d : ℕ) (remaining : Q → Option (List ℕ))
    (old new : Reader (MutBor (Tap Q))) (row : Record) (text : List ℕ) (place width : ℕ)
    → ReadsNext remaining old true row new → found_in name row ≡ At place → width ≡ length row
    → text ≡ records_text d (replaced width [] row ∷ [])
    → FindsHeader name d remaining old (record { place = place; width = width; delimiter = d }) row text new
header_found name d remaining old new row text place width reads found wide own =
    let past : length row ≤ width = omega (arith, wide) in
    record {
      reads = reads;
      found = found;
      width = sym wide;
      same = refl;
      own = own ∙ ap (λ (fs : Record). records_text d (fs ∷ [])) (replaced_past width [] row past);
    }
