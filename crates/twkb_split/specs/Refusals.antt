-- The first record that is refused, and which records are written before that.
use Rattle.std.specs.Prelude.{ℕ, ◌≡◌, ◌≤◌, ◌+◌, ◌++◌, ◌⊎◌, List, [], ◌∷◌, length, Option, IfSome}
use Rattle.twkb_csv.specs.Named.{Record}
use Rattle.twkb_table.specs.declared.numbered_records.TheConstants.{RECORD_CAP}
use Rattle.twkb_column.specs.declared.fault.ColumnCause.{ColumnCause}
use Rattle.twkb_column.specs.declared.fault.ColumnReason.TheVariants as csv
use Rattle.twkb_records.specs.Records.{AreRecordsOf}
use Rattle.twkb_records.specs.Rows.{found_in}
use Rattle.twkb_records.specs.declared.found.Found.TheVariants.{At}
use Rattle.twkb_split.specs.Causes.{refused_at}
use Rattle.twkb_split.specs.Pieces.{Piece, RefusesHeader, RefusesRow}
use Rattle.twkb_split.specs.declared.causes.RecordReason.{RecordReason}
use Rattle.twkb_split.specs.declared.causes.RecordReason.TheVariants as reason
use Rattle.twkb_split.specs.declared.packing.Packing.{Packing}

-- the text has no record, so it has no header
abbrev pub HasNoHeader : Packing → Option (List ℕ) → List Record → List Record → ℕ → RecordReason → Type 0
HasNoHeader p told before here number why = (before ≡ []) × (here ≡ []) × (number ≡ 1)
    × (why ≡ reason.Csv csv.NoSuchColumn) × IfSome told (λ text. AreRecordsOf p.column.delimiter text [])

-- The header is refused.
pub record IsBadHeader (p : Packing) (before here : List Record) (number : ℕ) (why : RecordReason) : Type 0 where
  pub header : Record
  pub first : before ≡ []
  pub alone : here ≡ header ∷ []
  pub place : number ≡ 1
  pub refused : RefusesHeader (found_in p.column.name.now header) why

-- A later record is refused: the header has the column.
pub record IsBadRow (p : Packing) (before here : List Record) (number : ℕ) (why : RecordReason) : Type 0 where
  pub header : Record
  pub rows : List Record
  pub row : Record
  pub column : ℕ
  pub first : before ≡ header ∷ rows
  pub found : found_in p.column.name.now header ≡ At column
  pub alone : here ≡ row ∷ []
  pub place : number ≡ length before + 1
  pub refused : RefusesRow p column (length header) row why

-- the record with this number, the one after these, is refused for this reason
abbrev pub IsRefusedAt : Packing → Option (List ℕ) → List Record → List Record → ℕ → RecordReason → Type 0
IsRefusedAt p told before here number why = HasNoHeader p told before here number why
    ⊎ IsBadHeader p before here number why ⊎ IsBadRow p before here number why

-- The cause is the refusal of the record after these.
pub record IsRefusal (p : Packing) (told : Option (List ℕ)) (before here : List Record) (why : ColumnCause)
    : Type 0 where
  pub number : ℕ
  pub because : RecordReason
  pub told_as : why ≡ refused_at number because
  pub refused : IsRefusedAt p told before here number because

-- which pieces are held back, given those that are written: the one of the record before the refused one, if that is
-- not the header
abbrev pub IsHeldBack : (whole held : List Piece) → Type 0
IsHeldBack whole held = ((length whole ≤ 1) × (held ≡ []))
    ⊎ ((1 ≤ length whole) × ((last : Piece) × (held ≡ last ∷ [])))

-- so many records are too many for a table
abbrev pub HasTooMany : (before here : List Record) → Type 0
HasTooMany before here = RECORD_CAP ≤ length (before ++ here)
