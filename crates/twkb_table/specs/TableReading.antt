-- The state of a reader of tables, and what its calls return.
use Rattle.std.specs.Prelude.{◌≡◌, ◌≢◌, ℕ, ◌+◌, ◌<◌, ◌⊎◌, List, [], ◌∷◌, ◌++◌, length, Option}
use Rattle.std.specs.Prelude.{IfSome, Result, Ok, Err, Bool, true, false, ⊤}
use Rattle.std.specs.Borrow.{MutBor}
use Rattle.csv.specs.Records.{fields_of}
use Rattle.csv.specs.declared.reader.Reader.{Reader}
use Rattle.twkb_io.specs.declared.tap.Tap.{Tap}
use Rattle.twkb_tree.specs.Tree.{Tree}
use Rattle.twkb_tree.specs.Rows.{Row, rows}
use Rattle.twkb_tree.specs.Limits.{Allowance, IsValid}
use Rattle.twkb_table.specs.Record.{Record}
use Rattle.twkb_table.specs.RowFault.{Named, AreComplete, all_but_last}
use Rattle.twkb_table.specs.CsvRecords.{AreRecordsOf, BeginWith, HasGiven, standing}
use Rattle.twkb_table.specs.RowReading.{limits_of, waiting, Awaits, Keeps}
use Rattle.twkb_table.specs.Waiting.{IsPoint, is_over, is_stopped, is_waiting}
use Rattle.twkb_table.specs.declared.row_reader.RowReader.{RowReader}
use Rattle.twkb_table.specs.declared.row_reader.State.{State}
use Rattle.twkb_table.specs.declared.row_reader.State.TheVariants as state
use Rattle.twkb_table.specs.declared.numbered_records.TheConstants.{RECORD_CAP}
use Rattle.twkb_table.specs.declared.reason.RowReason.{RowReason}
use Rattle.twkb_table.specs.declared.table_fault.TableFault.{TableFault}
use Rattle.twkb_table.specs.declared.table_fault.TableFault.TheVariants as fault
use Rattle.twkb_table.specs.declared.table_reader.TableReader.{TableReader}

-- ---- the state of a reader

-- the records read so far name these geometries; before the header there are none
abbrev pub NameSoFar : Allowance → List Record → List Tree → Type 0
NameSoFar l [] gs = gs ≡ []
NameSoFar l (first ∷ records) gs = Named l (first ∷ records) gs

-- The records name the geometries that were returned, and one more if a root waits: its only row
-- is that root, and the table's end was not reached. If none waits, either no geometry was
-- returned yet or the table's end was reached.
abbrev pub HaveGiven : Allowance → List Record → List Tree → List Row → Bool → Type 0
HaveGiven l records given [] ended = NameSoFar l records given × ((given ≡ []) ⊎ (ended ≡ true))
HaveGiven l records given (root ∷ more) ended = (last : Tree) × Named l records (given ++ last ∷ [])
    × (rows 0 last ≡ root ∷ more) × (ended ≡ false)

-- What a reader of tables has read: its reader of `csv`, the number of records after the header,
-- its rows, and the last record.
pub record Progress (R : Type 0) : Type 0 where
  pub source : Reader (MutBor (Tap R))
  pub number : ℕ
  pub rows : RowReader
  pub last : Record

-- what this reader has read
abbrev pub progress : {R : Type 0} → TableReader R → Progress R
progress reader = record {
  source = reader.reader;
  number = reader.number;
  rows = reader.rows;
  last = fields_of reader.last;
}

-- whether the end of the table was reached, so that no root waits
abbrev pub is_ended : {R : Type 0} → TableReader R → Bool
is_ended reader = is_over reader.rows.state

-- whether a call returned an error, or is reading a header or a geometry
abbrev pub is_spent : {R : Type 0} → TableReader R → Bool
is_spent reader = is_stopped reader.rows.state

-- the number of records read, if this many came after the header
abbrev pub records_read : State → ℕ → ℕ
records_read state.Fresh number = 0
records_read _ number = number + 1

-- A reader with these limits read these records, fewer than RECORD_CAP, of a text known at the
-- start, and returned these geometries. They are all records of the text if the end was reached. No
-- call returned an error.
pub record StandsAt {R : Type 0} (l : Allowance) (remaining : R → Option (List ℕ))
    (told : Option (List ℕ)) (records : List Record) (given : List Tree) (now : Progress R) : Type 0
  where
    pub source : standing remaining told records (is_over now.rows.state) now.source
    pub count : records_read now.rows.state now.number ≡ length records
    pub few : length records < RECORD_CAP
    pub limits : limits_of now.rows ≡ l
    pub root : List Row
    pub waits : Awaits now.rows now.last root
    pub gave : HaveGiven l records given root (is_over now.rows.state)
    pub unspent : is_stopped now.rows.state ≡ false

-- a reader of tables has read these records, and returned these geometries, as in `StandsAt`
abbrev pub StandsAfter : {R : Type 0} → Allowance → (R → Option (List ℕ)) → Option (List ℕ)
    → List Record → List Tree → TableReader R → Type 0
StandsAfter l remaining told records given reader = StandsAt l remaining told records given
    (progress reader)

-- the end of the table was reached, and all its geometries were returned
abbrev pub IsOver : {R : Type 0} → TableReader R → Type 0
IsOver reader = is_ended reader ≡ true

-- the next geometry is known to be a point that is not empty: it waits
abbrev pub HasPoint : {R : Type 0} → TableReader R → Type 0
HasPoint reader = IsPoint (waiting reader.rows)

-- ---- what a call returns

-- the second records begin with the first
abbrev pub Extends : List Record → List Record → Type 0
Extends records seen = (more : List Record) × (seen ≡ records ++ more)

-- The records seen name one more geometry, which is valid, and these are its rows.
pub record GivesRows {R : Type 0} (l : Allowance) (remaining : R → Option (List ℕ))
    (told : Option (List ℕ)) (records : List Record) (given : List Tree) (flat : List Row)
    (now : Progress R) : Type 0 where
  pub seen : List Record
  pub extends : Extends records seen
  pub begins : IfSome told (λ text. BeginWith text seen)
  pub geometry : Tree
  pub valid : IsValid l geometry
  pub rows : rows 0 geometry ≡ flat
  pub stands : StandsAt l remaining told seen (given ++ geometry ∷ []) now

-- The records seen name one more geometry, which is this one.
pub record GivesTree {R : Type 0} (l : Allowance) (remaining : R → Option (List ℕ))
    (told : Option (List ℕ)) (records : List Record) (given : List Tree) (geometry : Tree)
    (now : Progress R) : Type 0 where
  pub seen : List Record
  pub extends : Extends records seen
  pub begins : IfSome told (λ text. BeginWith text seen)
  pub stands : StandsAt l remaining told seen (given ++ geometry ∷ []) now

-- All records of the text, which are those seen, name the geometries that were returned.
pub record ReachesEnd {R : Type 0} (l : Allowance) (remaining : R → Option (List ℕ))
    (told : Option (List ℕ)) (records : List Record) (given : List Tree) (now : Progress R) : Type 0
  where
    pub seen : List Record
    pub extends : Extends records seen
    pub all : IfSome told (λ text. AreRecordsOf text seen)
    pub named : Named l seen given
    pub stands : StandsAt l remaining told seen given now

-- The records seen are refused at the last of them, for this reason, and the geometries returned
-- are those that the refusal leaves complete. If no record was seen, the text has none.
pub record IsRefusedAt (l : Allowance) (told : Option (List ℕ)) (records : List Record)
    (given : List Tree) (number : ℕ) (reason : RowReason) : Type 0 where
  pub seen : List Record
  pub extends : Extends records seen
  pub begins : IfSome told (λ text. BeginWith text seen)
  pub none : seen ≡ [] → IfSome told (λ text. AreRecordsOf text [])
  pub complete : AreComplete l seen number reason given

-- The text begins with RECORD_CAP records. Those before the last name geometries, of which all but
-- the last were returned.
pub record HasTooMany (l : Allowance) (told : Option (List ℕ)) (records : List Record)
    (given : List Tree) : Type 0 where
  pub before : List Record
  pub here : Record
  pub extends : Extends records before
  pub begins : IfSome told (λ text. BeginWith text (before ++ here ∷ []))
  pub many : length before + 1 ≡ RECORD_CAP
  pub geometries : List Tree
  pub named : Named l before geometries
  pub complete : given ≡ all_but_last geometries

-- what a fault says about a text, given the records read of it and the geometries returned
abbrev pub Explains : Allowance → Option (List ℕ) → List Record → List Tree → TableFault → Type 0
Explains l told records given (fault.At number reason) = IsRefusedAt l told records given number reason
Explains l told records given fault.TooManyRecords = HasTooMany l told records given
Explains l told records given fault.Source = ⊤
Explains l told records given fault.Memory = ⊤
Explains l told records given fault.Spent = ⊥

-- ---- what a call shows, whatever the reader's state before it

-- `Holds` is true of the limits, the text, the records read and the geometries returned, for every
-- state the reader may be in
abbrev pub Wherever : {R : Type 0} → (R → Option (List ℕ)) → TableReader R
    → (Allowance → Option (List ℕ) → List Record → List Tree → Type 0) → Type 0
Wherever remaining old Holds =
    (l : Allowance) (told : Option (List ℕ)) (records : List Record) (given : List Tree)
    → StandsAfter l remaining told records given old → Holds l told records given

-- the records name one more geometry with these rows, and the new reader is after it
abbrev pub Gives : {R : Type 0} → (R → Option (List ℕ)) → TableReader R → List Row → TableReader R → Type 0
Gives remaining old flat new = Wherever remaining old
    (λ l told records given. GivesRows l remaining told records given flat (progress new))

-- the records name this one more geometry, and the new reader is after it
abbrev pub GivesGeometry : {R : Type 0} → (R → Option (List ℕ)) → TableReader R → Tree → TableReader R → Type 0
GivesGeometry remaining old geometry new = Wherever remaining old
    (λ l told records given. GivesTree l remaining told records given geometry (progress new))

-- all records of the text name the geometries returned, and the new reader is at its end
abbrev pub Ends : {R : Type 0} → (R → Option (List ℕ)) → TableReader R → TableReader R → Type 0
Ends remaining old new = Wherever remaining old
    (λ l told records given. ReachesEnd l remaining told records given (progress new))

-- the fault is true of the text
abbrev pub Faults : {R : Type 0} → (R → Option (List ℕ)) → TableReader R → TableFault → Type 0
Faults remaining old f = Wherever remaining old (λ l told records given. Explains l told records given f)

-- ---- inside a call

-- the records name the geometries that were returned and, if its root was read, one more, which has
-- these rows so far
abbrev pub NameReading : Allowance → List Record → List Tree → List Row → Type 0
NameReading l records given [] = Named l records given × (given ≡ [])
NameReading l records given (root ∷ more) =
    (last : Tree) × Named l records (given ++ last ∷ []) × (rows 0 last ≡ root ∷ more)

-- The records seen, fewer than RECORD_CAP, name the geometries that were returned and one more,
-- which has these rows so far; if there are no rows, its root was not read.
pub record IsReading {R : Type 0} (l : Allowance) (remaining : R → Option (List ℕ))
    (told : Option (List ℕ)) (records : List Record) (given : List Tree) (so_far : List Row)
    (now : Progress R) : Type 0 where
  pub seen : List Record
  pub extends : Extends records seen
  pub source : HasGiven remaining told seen now.source
  pub count : now.number + 1 ≡ length seen
  pub few : length seen < RECORD_CAP
  pub limits : limits_of now.rows ≡ l
  pub named : NameReading l seen given so_far

-- The records seen name the geometries that were returned, and one more if a root waits.
pub record Reaches {R : Type 0} (l : Allowance) (remaining : R → Option (List ℕ))
    (told : Option (List ℕ)) (records : List Record) (given : List Tree) (now : Progress R) : Type 0
  where
    pub seen : List Record
    pub extends : Extends records seen
    pub begins : IfSome told (λ text. BeginWith text seen)
    pub stands : StandsAt l remaining told seen given now

-- the geometry with these rows is complete, and is returned; if there are no rows, no root was read
-- before, and nothing is returned
abbrev pub Completes : {R : Type 0} → Allowance → (R → Option (List ℕ)) → Option (List ℕ)
    → List Record → List Tree → List Row → Progress R → Type 0
Completes l remaining told records given [] now = Reaches l remaining told records given now
Completes l remaining told records given (root ∷ more) now =
    GivesRows l remaining told records given (root ∷ more) now

-- the records name one more geometry, which has these rows so far, and the new reader reads it; if
-- there are no rows, its root was not read
abbrev pub Begins : {R : Type 0} → (R → Option (List ℕ)) → TableReader R → List Row → TableReader R → Type 0
Begins remaining old so_far new = Wherever remaining old
    (λ l told records given. IsReading l remaining told records given so_far (progress new))

-- `Holds` is true of the limits, the text, the records read before the call and the geometries
-- returned, for every state in which the reader may be reading rows
abbrev pub WhereverReading : {R : Type 0} → (R → Option (List ℕ)) → Progress R → List Row
    → (Allowance → Option (List ℕ) → List Record → List Tree → Type 0) → Type 0
WhereverReading remaining old so_far Holds =
    (l : Allowance) (told : Option (List ℕ)) (records : List Record) (given : List Tree)
    → IsReading l remaining told records given so_far old → Holds l told records given

-- the fault is true of the text, if a geometry was being read
abbrev pub FaultsIn : {R : Type 0} → (R → Option (List ℕ)) → Progress R → List Row → TableFault
    → Type 0
FaultsIn remaining old so_far f = WhereverReading remaining old so_far
    (λ l told records given. Explains l told records given f)

-- the fault is not `Spent`, and the new reader is spent
abbrev pub IsMarked : TableFault → RowReader → Type 0
IsMarked f rows = (f ≢ fault.Spent) × (is_stopped rows.state ≡ true)

-- a root waits if `found` is true; the table's end was reached if not
abbrev pub IsReady : Bool → RowReader → Type 0
IsReady true rows = is_waiting rows.state ≡ true
IsReady false rows = is_over rows.state ≡ true

-- what the result of reading the header says: no root waits yet, or a fault
abbrev pub ReadsHeader : {R : Type 0} → (R → Option (List ℕ)) → TableReader R
    → Result (Unit {0}) TableFault → TableReader R → Type 0
ReadsHeader remaining old (Ok done) new = Begins remaining old (waiting new.rows) new ×
    (waiting new.rows ≡ [])
ReadsHeader remaining old (Err f) new = Faults remaining old f × IsMarked f new.rows

-- what the result of looking for the root of the next geometry says: it waits, there is none, or a
-- fault
abbrev pub FindsRoot : {R : Type 0} → (R → Option (List ℕ)) → TableReader R → Result Bool TableFault
    → TableReader R → Type 0
FindsRoot remaining old (Ok found) new =
    Wherever remaining old (λ l told records given. Reaches l remaining told records given
    (progress new))
    × IsReady found new.rows
FindsRoot remaining old (Err f) new = Faults remaining old f × IsMarked f new.rows

-- what the result of reading a root says, as the first one or after a point that waits: the root
-- waits, the table ended, or a fault
abbrev pub ReadsNextRoot : {R : Type 0} → (R → Option (List ℕ)) → Progress R
    → Result Bool TableFault
    → Progress R → Type 0
ReadsNextRoot remaining old (Ok found) new =
    WhereverReading remaining old (waiting old.rows) (λ l told records given.
    Completes l remaining told records given (waiting old.rows) new) × IsReady found new.rows
ReadsNextRoot remaining old (Err f) new = FaultsIn remaining old (waiting old.rows) f × IsMarked f
    new.rows

-- what the result of reading a record after these rows of a geometry says: one more row of it, its
-- end, or a fault
abbrev pub ReadsNextRow : {R : Type 0} → (R → Option (List ℕ)) → Progress R → List Row
    → Result Bool TableFault → List Row → Progress R → Type 0
ReadsNextRow remaining old before (Ok true) after new =
    WhereverReading remaining old before (λ l told records given.
    IsReading l remaining told records given after new)
    × Keeps new.rows after × (old.number < new.number) × (new.number < RECORD_CAP)
ReadsNextRow remaining old before (Ok false) after new =
    WhereverReading remaining old before (λ l told records given.
    GivesRows l remaining told records given before new)
    × (after ≡ before) × (is_stopped new.rows.state ≡ false)
ReadsNextRow remaining old before (Err f) after new = FaultsIn remaining old before f × IsMarked f
    new.rows

-- what the result of reading a geometry says, if the reader is neither at the end nor spent
abbrev pub ReadsGeometry : {R : Type 0} → (R → Option (List ℕ)) → TableReader R
    → Result Bool TableFault
    → List Row → TableReader R → Type 0
ReadsGeometry remaining old (Ok true) flat new = Gives remaining old flat new × (0 < length flat) ×
    (is_spent new ≡ false)
ReadsGeometry remaining old (Ok false) flat new = Ends remaining old new × (flat ≡ []) × IsOver new
ReadsGeometry remaining old (Err f) flat new = Faults remaining old f × IsMarked f new.rows
