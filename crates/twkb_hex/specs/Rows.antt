-- The column of a header, and what the records of a CSV become.
use Rattle.std.specs.Prelude.{ℕ, zero, suc, ◌≡◌, ◌≢◌, ◌+◌, ◌⊎◌, List, [], ◌∷◌, length, get_or, ⊤, if◌then◌else◌}
use Rattle.std.specs.Str.{bytes_eq}
use Rattle.twkb_csv.specs.Named.{Record}
use Rattle.twkb_hex.specs.Fields.{Becomes, Refuses, Way, name_of}
use Rattle.twkb_hex.specs.declared.found.Found.{Found}
use Rattle.twkb_hex.specs.declared.found.Found.TheVariants.{Absent, At, Twice}
use Rattle.twkb_hex.specs.declared.report.HexReason.{HexReason}
use Rattle.twkb_hex.specs.declared.report.HexReason.TheVariants as reason

-- ==== The column of a header.

-- one more field of the header is the name, at this place
abbrev pub one_more : Found → ℕ → Found
one_more Absent place = At place
one_more (At other) place = Twice
one_more Twice place = Twice

-- which of the fields, from this place on, is the name, after what was found before
unfoldable pub found_from : List ℕ → Found → ℕ → Record → Found
found_from name found place [] = found
found_from name found place (field ∷ fields) =
    found_from name (if bytes_eq field name then one_more found place else found) (place + 1) fields

-- which field of the header is the name
abbrev pub found_in : List ℕ → Record → Found
found_in name header = found_from name Absent 0 header

-- the header has no such column, or has it twice
abbrev pub RefusesHeader : Found → HexReason → Type 0
RefusesHeader Absent why = why ≡ reason.NoColumn
RefusesHeader (At place) why = ⊥
RefusesHeader Twice why = why ≡ reason.ColumnTwice

-- ==== What records become.

-- the record with the field at this place replaced; the record itself, if it has no field there
unfoldable pub replaced : ℕ → List ℕ → Record → Record
replaced place made [] = []
replaced zero made (field ∷ fields) = made ∷ fields
replaced (suc place) made (field ∷ fields) = field ∷ replaced place made fields

-- A record of as many fields as the header becomes the record with what its field of the column
-- becomes.
pub record RowBecomes (way : Way) (place width : ℕ) (row new : Record) : Type 0 where
  pub fields : length row ≡ width
  pub made : List ℕ
  pub becomes : Becomes way (get_or row place []) made
  pub is : new ≡ replaced place made row

-- a record is refused, for the first reason that holds: its number of fields, or its field of the
-- column
abbrev pub RefusesRow : Way → ℕ → ℕ → Record → HexReason → Type 0
RefusesRow way place width row why = ((length row ≢ width) × (why ≡ reason.FieldCount))
    ⊎ ((length row ≡ width) × Refuses way (get_or row place []) why)

-- each record becomes the one of the same number
unfoldable pub Become : Way → ℕ → ℕ → List Record → List Record → Type 0
Become way place width [] [] = ⊤
Become way place width [] (new ∷ news) = ⊥
Become way place width (row ∷ rows) [] = ⊥
Become way place width (row ∷ rows) (new ∷ news) =
    RowBecomes way place width row new × Become way place width rows news

-- The header has the column, and stays; each record after it becomes another. Without a header there
-- is nothing.
abbrev pub Converts : Way → List Record → List Record → Type 0
Converts way [] [] = ⊤
Converts way [] (new ∷ news) = ⊥
Converts way (header ∷ rows) [] = ⊥
Converts way (header ∷ rows) (new ∷ news) = (new ≡ header) × ((place : ℕ)
    × (found_in (name_of way) header ≡ At place) × Become way place (length header) rows news)
