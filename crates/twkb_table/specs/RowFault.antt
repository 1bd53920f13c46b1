-- Where and why records are refused, and which geometries are complete before that place (profile).
use Rattle.std.specs.Prelude.{ℕ, List, [], codes, ◌≡◌, ◌∷◌, ◌++◌, ◌≢◌, ◌+◌, ◌⊎◌, length, reverse, ⊤, suc, ◌&&◌, Bool}
use Rattle.std.specs.Prelude.{true, false, if◌then◌else◌}
use Rattle.twkb_polyline.specs.Fault.{point_text_words}
use Rattle.twkb_table.specs.declared.reason.RowReason.{RowReason}
use Rattle.twkb_table.specs.declared.reason.RowReason.TheVariants as row
use Rattle.twkb_tree.specs.Tree.{Tree}
use Rattle.twkb_tree.specs.Rows.{Row, rows_of, AreValid}
use Rattle.twkb_tree.specs.Limits.{Allowance}
use Rattle.twkb_table.specs.Record.{Record, table, header}
use Rattle.twkb_table.specs.Judged.{Verdict, Judged, Refused, Accepted}
use Rattle.twkb_table.specs.declared.reason.RowReason.TheVariants.{BadHeader}
use Rattle.std.specs.Str.{bytes_eq}
use Rattle.twkb_tree.specs.Admits.{AreAccepted}

-- ==== The text of each reason for which a record is refused (profile).

-- what is wrong with the id, the precision or the points of a record, or with its text of points
abbrev pub value_words : RowReason → List ℕ
value_words row.BadId = codes "bad id"
value_words row.IdNotAllowed = codes "id not allowed"
value_words row.MixedIds = codes "id on some children only"
value_words row.BadPrecision = codes "bad precision"
value_words row.PrecisionMissing = codes "precision missing"
value_words row.PrecisionNotAllowed = codes "precision not allowed"
value_words row.PolylineNotAllowed = codes "polyline not allowed"
value_words (row.Polyline offset reason) = point_text_words reason
value_words row.PointCount = codes "wrong number of points"
value_words reason = []

-- what is wrong with a record, in words: its form or its place, or a value in it
abbrev pub row_words : RowReason → List ℕ
row_words row.BadHeader = codes "bad header"
row_words row.FieldCount = codes "not five fields"
row_words row.BadDepth = codes "bad depth"
row_words row.BadKind = codes "unknown kind"
row_words row.BadPlace = codes "kind not allowed there"
row_words row.TooDeep = codes "nested too deep"
row_words row.TooManyNodes = codes "too many rows in one geometry"
row_words reason = value_words reason

-- ==== The geometries that records name.

-- The records are the table of these geometries, each of which is valid.
pub record Named (l : Allowance) (records : List Record) (gs : List Tree) : Type 0 where
  pub table_of : records ≡ table gs
  pub valid : AreValid l gs

-- the records name no list of geometries
abbrev pub NamesNone : Allowance → List Record → Type 0
NamesNone l records = (gs : List Tree) → Named l records gs → ⊥

-- with one more record the records name geometries, whose rows are those of the earlier records and
-- this row
abbrev pub NameMore : Allowance → List Record → Record → List Tree → Row → Type 0
NameMore l records here gs row = (hs : List Tree) × Named l (records ++ here ∷ []) hs
    × (rows_of hs ≡ rows_of gs ++ row ∷ [])

-- ==== Where and why records are refused, and which geometries are complete before that place
-- (profile).

-- the first record is missing, or is not the header
abbrev pub HasNoHeader : List Record → Type 0
HasNoHeader [] = ⊤
HasNoHeader (first ∷ records) = first ≢ header

-- the verdict on a record after the rows of these geometries
abbrev pub JudgedBehind : Allowance → List Tree → Record → Verdict → Type 0
JudgedBehind l gs here v = Judged l (reverse (rows_of gs)) here v

-- The records before this one name geometries, with it they name none, and the reason is the
-- first that holds of it.
pub record IsLaterFault (l : Allowance) (records : List Record) (number : ℕ) (reason : RowReason) : Type 0 where
  pub before : List Record
  pub here : Record
  pub more : List Record
  pub split : records ≡ before ++ here ∷ more
  pub place : number ≡ length before + 1
  pub geometries : List Tree
  pub named : Named l before geometries
  pub none : NamesNone l (before ++ here ∷ [])
  pub judged : JudgedBehind l geometries here (Refused reason)

-- the records are refused at the record with this number, counted from 1, for this reason
abbrev pub RowFault : Allowance → List Record → ℕ → RowReason → Type 0
RowFault l records number reason =
    (HasNoHeader records × (number ≡ 1) × (reason ≡ BadHeader)) ⊎ IsLaterFault l records number reason

-- all geometries but the last; none if there are none
abbrev pub all_but_last : List Tree → List Tree
all_but_last [] = []
all_but_last (g ∷ []) = []
all_but_last (g ∷ h ∷ gs) = g ∷ all_but_last (h ∷ gs)

-- These geometries are complete before a refusal: all but the last of those that the records
-- before it name, since the refused row might have belonged to the last. If the first record is
-- refused, there are none.
abbrev pub AreComplete : Allowance → List Record → ℕ → RowReason → List Tree → Type 0
AreComplete l records number reason gs =
    (HasNoHeader records × (number ≡ 1) × (reason ≡ BadHeader) × (gs ≡ []))
    ⊎ ((fault : IsLaterFault l records number reason) × (gs ≡ all_but_last fault.geometries))

-- ==== The plain reader: records read one after another, each judged after the rows before it.

-- the result of reading: all rows, or the rows before a refused record with its number and
-- reason; last row first
pub data Reading : Type 0 where
  Whole : List Row → Reading
  Stopped : List Row → ℕ → RowReason → Reading

-- after a row the reading goes on, and after a refused record it stops
abbrev pub reading_after : Verdict → List Row → ℕ → (Row → Reading) → Reading
reading_after (Accepted row) before number others = others row
reading_after (Refused reason) before number others = Stopped before number reason

-- the reading of the records from this number on, given a judge of each record
abbrev pub read_rows : (List Row → Record → Verdict) → List Row → ℕ → List Record → Reading
read_rows judge before number [] = Whole before
read_rows judge before number (here ∷ more) =
    reading_after (judge before here) before number (λ row. read_rows judge (row ∷ before) (suc number) more)

-- the two records are equal, field by field
abbrev pub is_record : Record → Record → Bool
is_record [] [] = true
is_record (field ∷ fields) (other ∷ others) = bytes_eq field other && is_record fields others
is_record _ _ = false

-- the reading of a table: first the header, then the rows
abbrev pub read_table : (List Row → Record → Verdict) → List Record → Reading
read_table judge [] = Stopped [] 1 BadHeader
read_table judge (first ∷ records) = if is_record first header then read_rows judge [] 2 records
    else Stopped [] 1 BadHeader

-- the judge gives the right verdict on each record
abbrev pub Judges : Allowance → (List Row → Record → Verdict) → Type 0
Judges l judge = (before : List Row) (here : Record) → AreAccepted l before → Judged l before here (judge before here)

-- the reading is the rows of the geometries that the records name, or the fault of the records
-- with the rows before it
abbrev pub IsReading : Allowance → List Record → Reading → Type 0
IsReading l records (Whole before) = (gs : List Tree) × Named l records gs × (before ≡ reverse (rows_of gs))
IsReading l records (Stopped before number reason) =
    (HasNoHeader records × (number ≡ 1) × (reason ≡ BadHeader) × (before ≡ []))
    ⊎ ((fault : IsLaterFault l records number reason) × (before ≡ reverse (rows_of fault.geometries)))
