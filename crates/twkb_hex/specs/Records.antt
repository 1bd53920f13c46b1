-- The records that a CSV has, read and written with a delimiter, and how far a reader has come.
use Rattle.std.specs.Prelude.{ℕ, ◌≡◌, List, [], ◌∷◌, ◌++◌, Option, Some, None, IfSome}
use Rattle.std.specs.Prelude.{Bool, true, false, ⊤, flat_map, if◌then◌else◌}
use Rattle.std.specs.Borrow.{MutBor}
use Rattle.csv.specs.Reading.{AreRecords, Reached, Ready, is_flexible, reader_config, reader_state}
use Rattle.csv.specs.Reading.{reader_trim, source_of, strip_bom}
use Rattle.csv.specs.Writing.{default_writer, row_text, with_delimiter}
use Rattle.csv.specs.declared.parser.State.{State}
use Rattle.csv.specs.declared.parser.State.TheVariants as st
use Rattle.csv.specs.declared.reader.Trim.TheVariants as trim
use Rattle.csv.specs.declared.reader.Reader.{Reader}
use Rattle.csv.specs.declared.writer.WriterBuilder.{WriterBuilder}
use Rattle.twkb_io.specs.declared.tap.Tap.{Tap}
use Rattle.twkb_io.specs.Taps.{device_of}
use Rattle.twkb_csv.specs.Machine.{config}
use Rattle.twkb_csv.specs.Named.{Record}

-- ==== The records of a text, and the text of records (RFC 4180; the delimiter: profile).

-- these are all the records of a text, whose fields this byte separates; a byte order mark at its
-- start is passed over
abbrev pub AreRecordsOf : ℕ → List ℕ → List Record → Type 0
AreRecordsOf delimiter text records = AreRecords (config delimiter) st.StartRecord (strip_bom text) records

-- the records of a text begin with these records
abbrev pub BeginWith : ℕ → List ℕ → List Record → Type 0
BeginWith delimiter text records = (state : State) × (left : List ℕ)
    × Reached (config delimiter) st.StartRecord (strip_bom text) records state left

-- how records are written: with this byte between fields, quotes if a field needs them, and LF at
-- the end
abbrev pub written_with : ℕ → WriterBuilder
written_with delimiter = with_delimiter default_writer delimiter

-- the end of a record, given whether it shows no byte
abbrev pub end_of_row : Bool → List ℕ
end_of_row is_blank = (if is_blank then 34 ∷ 34 ∷ [] else []) ++ 10 ∷ []

-- the text of records
abbrev pub text_of : ℕ → List Record → List ℕ
text_of delimiter records = flat_map (row_text (written_with delimiter)) records

-- ==== How far a reader of `csv` has come.

-- the reader of `csv` is set up for such records, and its next read is of one record
abbrev pub IsSetUp : {S : Type 0} → ℕ → Reader S → Type 0
IsSetUp delimiter reader = (reader_trim reader ≡ trim.None) × Ready reader × (is_flexible reader ≡ true)
    × (reader_config reader ≡ config delimiter)

-- the bytes that a borrowed tap gives
abbrev pub told_by : {R : Type 0} → (R → Option (List ℕ)) → MutBor (Tap R) → Option (List ℕ)
told_by remaining tap = remaining (device_of tap.now)

-- the reader of `csv` gave these records of a text, if the bytes are known
abbrev pub HasGivenOf : {R : Type 0} → ℕ → (R → Option (List ℕ)) → Option (List ℕ) → List Record
    → Reader (MutBor (Tap R)) → Type 0
HasGivenOf delimiter remaining None records reader = ⊤
HasGivenOf delimiter remaining (Some text) records reader =
    (left : List ℕ) × (source_of (told_by remaining) reader ≡ Some left)
    × Reached (config delimiter) st.StartRecord (strip_bom text) records (reader_state reader) left

-- a reader that is set up gave these records of a text
abbrev pub HasGiven : {R : Type 0} → ℕ → (R → Option (List ℕ)) → Option (List ℕ) → List Record
    → Reader (MutBor (Tap R)) → Type 0
HasGiven delimiter remaining told records reader =
    IsSetUp delimiter reader × HasGivenOf delimiter remaining told records reader

-- what the result of reading a record says: one more record, or that those given are all records
abbrev pub ReadsNext : {R : Type 0} → (R → Option (List ℕ)) → Reader (MutBor (Tap R)) → Bool → Record
    → Reader (MutBor (Tap R)) → Type 0
ReadsNext remaining old true here new = (delimiter : ℕ) (told : Option (List ℕ)) (records : List Record)
    → HasGiven delimiter remaining told records old → HasGiven delimiter remaining told (records ++ here ∷ []) new
ReadsNext remaining old false here new = (delimiter : ℕ) (told : Option (List ℕ)) (records : List Record)
    → HasGiven delimiter remaining told records old → IfSome told (λ text. AreRecordsOf delimiter text records)
