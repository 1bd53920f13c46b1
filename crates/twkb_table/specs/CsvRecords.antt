-- The records that `csv` reads from a text, with their numbers.
use Rattle.std.specs.Prelude.{ℕ, ◌≡◌, List, [], ◌∷◌, ◌++◌, Option, Some, None, IfSome, Bool, true, false, ⊤, ◌+◌, ◌<◌}
use Rattle.std.specs.Prelude.{◌≤◌, ◌⊎◌, Result, Ok, Err}
use Rattle.std.specs.Borrow.{MutBor}
use Rattle.csv.specs.Reading.{AreRecords, Reached, Ready, default_config, is_flexible, reader_config, reader_state}
use Rattle.csv.specs.Reading.{reader_trim, source_of, strip_bom}
use Rattle.csv.specs.declared.parser.State.{State}
use Rattle.csv.specs.declared.parser.State.TheVariants as st
use Rattle.csv.specs.declared.reader.Trim.TheVariants as trim
use Rattle.csv.specs.declared.reader.Reader.{Reader}
use Rattle.twkb_io.specs.declared.tap.Tap.{Tap}
use Rattle.twkb_io.specs.Taps.{device_of}
use Rattle.twkb_table.specs.Record.{Record}
use Rattle.twkb_flat.specs.declared.stop.Stop.{Stop}
use Rattle.twkb_flat.specs.declared.stop.Stop.TheVariants.{Memory, Refused}
use Rattle.twkb_table.specs.declared.numbered_records.TheConstants.{RECORD_CAP}
use Rattle.twkb_table.specs.declared.reason.RowReason.{RowReason}
use Rattle.twkb_table.specs.declared.table_fault.TableFault.{TableFault}
use Rattle.twkb_table.specs.declared.table_fault.TableFault.TheVariants as fault

-- ==== The records that `csv` reads from a text, and how far its reader has come.

-- these are all the records of a text: commas and quotes as in RFC 4180, no header row, any
-- number of fields, no trimming (profile)
abbrev pub AreRecordsOf : List ℕ → List Record → Type 0
AreRecordsOf text records = AreRecords default_config st.StartRecord (strip_bom text) records

-- the records of a text begin with these records
abbrev pub BeginWith : List ℕ → List Record → Type 0
BeginWith text records = (state : State) × (left : List ℕ)
    × Reached default_config st.StartRecord (strip_bom text) records state left

-- the reader of `csv` is set up for such records, and its next read is of one record
abbrev pub IsSetUp : {S : Type 0} → Reader S → Type 0
IsSetUp reader = (reader_trim reader ≡ trim.None) × Ready reader × (is_flexible reader ≡ true)
    × (reader_config reader ≡ default_config)

-- the bytes that a borrowed tap gives
abbrev pub told_by : {R : Type 0} → (R → Option (List ℕ)) → MutBor (Tap R) → Option (List ℕ)
told_by remaining tap = remaining (device_of tap.now)

-- the reader of `csv` gave these records of a text, if the bytes are known
abbrev pub HasGivenOf : {R : Type 0} → (R → Option (List ℕ)) → Option (List ℕ) → List Record
    → Reader (MutBor (Tap R)) → Type 0
HasGivenOf remaining None records reader = ⊤
HasGivenOf remaining (Some text) records reader =
    (left : List ℕ) × (source_of (told_by remaining) reader ≡ Some left)
    × Reached default_config st.StartRecord (strip_bom text) records (reader_state reader) left

-- a reader that is set up gave these records of a text
abbrev pub HasGiven : {R : Type 0} → (R → Option (List ℕ)) → Option (List ℕ) → List Record
    → Reader (MutBor (Tap R)) → Type 0
HasGiven remaining told records reader = IsSetUp reader × HasGivenOf remaining told records reader

-- The reader gave these records of the text known at the start, and they are all its records if the
-- end was reached.
abbrev pub standing : {R : Type 0} → (R → Option (List ℕ)) → Option (List ℕ) → List Record → Bool
    → Reader (MutBor (Tap R)) → Type 0
standing remaining told records false reader = HasGiven remaining told records reader
standing remaining told records true reader = IfSome told (λ text. AreRecordsOf text records)

-- if the old reader gave some records of a text, the new one gave this record too
abbrev pub Advances : {R : Type 0} → (R → Option (List ℕ)) → Reader (MutBor (Tap R)) → Record
    → Reader (MutBor (Tap R)) → Type 0
Advances remaining old here new =
    (told : Option (List ℕ)) (records : List Record) → HasGiven remaining told records old
    → HasGiven remaining told (records ++ here ∷ []) new

-- the records that the reader gave are all those of the text
abbrev pub Finishes : {R : Type 0} → (R → Option (List ℕ)) → Reader (MutBor (Tap R)) → Type 0
Finishes remaining reader =
    (told : Option (List ℕ)) (records : List Record) → HasGiven remaining told records reader
    → IfSome told (λ text. AreRecordsOf text records)

-- ==== Records with their numbers, and why no record with a number gave a row.

-- what the result of reading a record says: one more record, the end of the text, or a fault of the
-- source
abbrev pub ReadsNext : {R : Type 0} → (R → Option (List ℕ)) → Reader (MutBor (Tap R))
    → Result Bool TableFault → Record → Reader (MutBor (Tap R)) → Type 0
ReadsNext remaining old (Ok true) here new = Advances remaining old here new
ReadsNext remaining old (Ok false) here new = Finishes remaining old
ReadsNext remaining old (Err f) here new = f ≡ fault.Source

-- why no record was counted after this many: none could be read, or one was read whose number would
-- be RECORD_CAP or above
abbrev pub MissesRecord : {R : Type 0} → (R → Option (List ℕ)) → Reader (MutBor (Tap R)) → ℕ
    → TableFault → Type 0
MissesRecord {R} remaining old count f =
    (f ≡ fault.Source)
    ⊎ ((f ≡ fault.TooManyRecords) × (RECORD_CAP ≤ count + 1)
    × ((here : Record) × (new : Reader (MutBor (Tap R))) × Advances remaining old here new))

-- what the result of reading a record after the header says, with the numbers of records read before
-- and after it: one more, below RECORD_CAP; the end of the text; or a fault, after which nothing is
-- said of the number
abbrev pub ReadsRecord : {R : Type 0} → (R → Option (List ℕ)) → Reader (MutBor (Tap R)) → ℕ
    → Result Bool TableFault → Record → Reader (MutBor (Tap R)) → ℕ → Type 0
ReadsRecord remaining old count (Ok true) here new counted =
    Advances remaining old here new × (counted ≡ count + 1) × (counted < RECORD_CAP)
ReadsRecord remaining old count (Ok false) here new counted = Finishes remaining old ×
    (counted ≡ count)
ReadsRecord remaining old count (Err f) here new counted = MissesRecord remaining old count f

-- the fault of the record with this number: memory was refused, or the record was refused for a
-- reason
abbrev pub fault_of : ℕ → Stop RowReason → TableFault
fault_of number Memory = fault.Memory
fault_of number (Refused reason) = fault.At number reason
