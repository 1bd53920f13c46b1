-- How far the records of a CSV were sent.
use Rattle.std.specs.Prelude.{ℕ, ◌≡◌, ◌+◌, ◌++◌, ◌⊎◌, List, [], ◌∷◌, length, Option, Bool, true, false, Result, Ok, Err}
use Rattle.std.specs.Borrow.{MutBor}
use Rattle.csv.specs.declared.reader.Reader.{Reader}
use Rattle.twkb_io.specs.Outputs.{Took, is_spent, sent_of}
use Rattle.twkb_io.specs.declared.output.Output.{Output}
use Rattle.twkb_io.specs.declared.tap.Tap.{Tap}
use Rattle.twkb_csv.specs.Named.{Record}
use Rattle.twkb_hex.specs.Fields.{Way, delimiter_of, name_of}
use Rattle.twkb_hex.specs.Records.{HasGiven, ReadsNext, text_of}
use Rattle.twkb_hex.specs.Refusals.{IsHeldBack}
use Rattle.twkb_hex.specs.Rows.{Become, RefusesHeader, RefusesRow, RowBecomes, found_in}
use Rattle.twkb_hex.specs.declared.found.Found.TheVariants.{At}
use Rattle.twkb_hex.specs.declared.report.HexCause.{HexCause}
use Rattle.twkb_hex.specs.declared.report.HexCause.TheVariants as cause
use Rattle.twkb_hex.specs.declared.report.HexReason.{HexReason}
use Rattle.twkb_hex.specs.declared.report.HexReason.TheVariants as reason

-- the output has sent nothing, and no call of it was refused
abbrev pub IsFresh : {W : Type 0} → Output W → Type 0
IsFresh output = (is_spent output ≡ false) × (sent_of output ≡ 0)

-- ==== The header.

-- The header was read, has the column at this place, and this is its text.
pub record FindsHeader {R : Type 0} (name : List ℕ) (delimiter : ℕ) (remaining : R → Option (List ℕ))
    (old : Reader (MutBor (Tap R)))
    (place : ℕ) (header : Record) (text : List ℕ) (new : Reader (MutBor (Tap R))) : Type 0 where
  pub reads : ReadsNext remaining old true header new
  pub found : found_in name header ≡ At place
  pub own : text ≡ text_of delimiter (header ∷ [])

-- memory was refused, or the header is refused
abbrev pub IsHeaderCause : List ℕ → Record → HexCause → Type 0
IsHeaderCause name header why = (why ≡ cause.Memory)
    ⊎ ((because : HexReason) × (why ≡ cause.Record 1 because) × RefusesHeader (found_in name header) because)

-- why there is no header: it could not be read, there is none, or a cause of its own
abbrev pub MissesHeader : {R : Type 0} → List ℕ → (R → Option (List ℕ)) → Reader (MutBor (Tap R)) → HexCause
    → Reader (MutBor (Tap R)) → Type 0
MissesHeader name remaining old why new = (why ≡ cause.ReadDevice)
    ⊎ (ReadsNext remaining old false [] new × (why ≡ cause.Record 1 reason.NoColumn))
    ⊎ ((header : Record) × ReadsNext remaining old true header new × IsHeaderCause name header why)

-- ==== A later record.

-- a record becomes another, and this is the text of that
abbrev pub RowMade : Way → ℕ → ℕ → Record → List ℕ → Type 0
RowMade way place width row text = (become : Record) × RowBecomes way place width row become
    × (text ≡ text_of (delimiter_of way) (become ∷ []))

-- A record was read, it becomes another, and this is the text of that.
pub record MakesRow {R : Type 0} (way : Way) (place width : ℕ) (remaining : R → Option (List ℕ))
    (old : Reader (MutBor (Tap R))) (text : List ℕ) (new : Reader (MutBor (Tap R))) : Type 0 where
  pub row : Record
  pub reads : ReadsNext remaining old true row new
  pub made : RowMade way place width row text

-- memory was refused, or the record is refused
abbrev pub IsRowCause : Way → ℕ → ℕ → ℕ → Record → HexCause → Type 0
IsRowCause way place width number row why = (why ≡ cause.Memory)
    ⊎ ((because : HexReason) × (why ≡ cause.Record number because) × RefusesRow way place width row because)

-- why no text was made: the record with this number could not be read, or a cause of its own
abbrev pub MissesRow : {R : Type 0} → Way → ℕ → ℕ → ℕ → (R → Option (List ℕ)) → Reader (MutBor (Tap R)) → HexCause
    → Reader (MutBor (Tap R)) → Type 0
MissesRow way place width number remaining old why new = (why ≡ cause.ReadDevice)
    ⊎ ((row : Record) × ReadsNext remaining old true row new × IsRowCause way place width number row why)

-- the result of reading the record with this number and making the text of what it becomes
abbrev pub NextRow : {R : Type 0} → Way → ℕ → ℕ → ℕ → (R → Option (List ℕ)) → Reader (MutBor (Tap R))
    → Result Bool HexCause → List ℕ → Reader (MutBor (Tap R)) → Type 0
NextRow way place width number remaining old (Ok true) text new = MakesRow way place width remaining old text new
NextRow way place width number remaining old (Ok false) text new = ReadsNext remaining old false [] new
NextRow way place width number remaining old (Err why) text new =
    MissesRow way place width number remaining old why new

-- ==== How far the records were sent.

-- The header and some records after it were read, all before the one with this number. They become
-- others, the first of which were sent, so many; the text of the others waits.
pub record StandsAt {R W : Type 0} (way : Way) (place width : ℕ) (remaining : R → Option (List ℕ))
    (contents : W → Option (List ℕ)) (told : Option (List ℕ)) (csv : Reader (MutBor (Tap R)))
    (first output : Output W) (number done : ℕ) (waiting : List ℕ) : Type 0 where
  pub header : Record
  pub rows : List Record
  pub given : HasGiven (delimiter_of way) remaining told (header ∷ rows) csv
  pub found : found_in (name_of way) header ≡ At place
  pub width_is : length header ≡ width
  pub news : List Record
  pub become : Become way place width rows news
  pub sent : List Record
  pub held : List Record
  pub parts : header ∷ news ≡ sent ++ held
  pub held_back : IsHeldBack way sent held
  pub took : Took contents first (text_of (delimiter_of way) sent) output
  pub text : waiting ≡ text_of (delimiter_of way) held
  pub fresh : IsFresh first
  pub number_is : number ≡ length rows + 2
  pub count : done ≡ length sent
