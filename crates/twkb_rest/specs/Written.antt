-- How records are written: as `csv` writes them, with a delimiter.
use Rattle.std.specs.Prelude.{ℕ, ◌≡◌, ◌==◌, List, [], ◌∷◌, ◌++◌, flat_map, false, ⊤}
use Rattle.csv.specs.Writing.{default_writer, row_text, with_delimiter}
use Rattle.csv.specs.declared.writer.WriterBuilder.{WriterBuilder}

-- the fields of a record, each a list of bytes
abbrev pub Record : Type 0
Record = List (List ℕ)

-- quotes where a field needs them and LF after each record, fields separated by this byte (RFC 4180; LF by profile)
abbrev pub written_with : ℕ → WriterBuilder
written_with delimiter = with_delimiter default_writer delimiter

-- the text of records, one after another
abbrev pub records_text : ℕ → List Record → List ℕ
records_text delimiter records = flat_map (row_text (written_with delimiter)) records

-- the second text begins with the first
abbrev pub Grows : List ℕ → List ℕ → Type 0
Grows old new = (more : List ℕ) × (new ≡ old ++ more)

-- The byte can stand between fields: it is no quote, no CR and no LF.
pub record IsSeparator (delimiter : ℕ) : Type 0 where
  pub quote : (delimiter == 34) ≡ false
  pub cr : (delimiter == 13) ≡ false
  pub lf : (delimiter == 10) ≡ false

-- the record has a field
abbrev pub HasField : Record → Type 0
HasField [] = ⊥
HasField (field ∷ fields) = ⊤
