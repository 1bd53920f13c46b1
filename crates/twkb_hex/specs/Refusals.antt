-- The first record that is refused, and which records are written before that.
use Rattle.std.specs.Prelude.{ℕ, ◌≡◌, ◌≤◌, ◌+◌, ◌⊎◌, List, [], ◌∷◌, length, Option, IfSome}
use Rattle.twkb_csv.specs.Named.{Record}
use Rattle.twkb_hex.specs.Fields.{Packed, Unpacked, Way, delimiter_of, name_of}
use Rattle.twkb_hex.specs.Records.{AreRecordsOf}
use Rattle.twkb_hex.specs.Rows.{RefusesHeader, RefusesRow, found_in}
use Rattle.twkb_hex.specs.declared.found.Found.TheVariants.{At}
use Rattle.twkb_hex.specs.declared.report.HexReason.{HexReason}
use Rattle.twkb_hex.specs.declared.report.HexReason.TheVariants as reason

-- the text has no record, so it has no header
abbrev pub HasNoHeader : Way → Option (List ℕ) → List Record → List Record → ℕ → HexReason → Type 0
HasNoHeader way told before here number why =
    (before ≡ []) × (here ≡ []) × (number ≡ 1) × (why ≡ reason.NoColumn)
    × IfSome told (λ text. AreRecordsOf (delimiter_of way) text [])

-- The header is refused.
pub record IsBadHeader (way : Way) (before here : List Record) (number : ℕ) (why : HexReason) : Type 0 where
  pub header : Record
  pub first : before ≡ []
  pub alone : here ≡ header ∷ []
  pub place : number ≡ 1
  pub refused : RefusesHeader (found_in (name_of way) header) why

-- A later record is refused: the header has the column.
pub record IsBadRow (way : Way) (before here : List Record) (number : ℕ) (why : HexReason) : Type 0 where
  pub header : Record
  pub rows : List Record
  pub row : Record
  pub column : ℕ
  pub first : before ≡ header ∷ rows
  pub found : found_in (name_of way) header ≡ At column
  pub alone : here ≡ row ∷ []
  pub place : number ≡ length before + 1
  pub refused : RefusesRow way column (length header) row why

-- the record with this number, the one after these, is refused for this reason
abbrev pub IsRefusedAt : Way → Option (List ℕ) → List Record → List Record → ℕ → HexReason → Type 0
IsRefusedAt way told before here number why = HasNoHeader way told before here number why
    ⊎ IsBadHeader way before here number why ⊎ IsBadRow way before here number why

-- which records are held back, given those that are written: if a column is packed, the one before
-- the refused record, if that is not the header; if it is unpacked, none
abbrev pub IsHeldBack : Way → (whole held : List Record) → Type 0
IsHeldBack (Packed p l) whole held = ((length whole ≤ 1) × (held ≡ []))
    ⊎ ((1 ≤ length whole) × ((last : Record) × (held ≡ last ∷ [])))
IsHeldBack (Unpacked u l) whole held = held ≡ []
