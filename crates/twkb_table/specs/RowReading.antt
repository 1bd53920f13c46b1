-- The state of a reader of rows in the geometry that it reads.
use Rattle.std.specs.Prelude.{◌≡◌, ◌<◌, ◌⊎◌, List, [], ◌∷◌, ◌++◌, length, reverse, Result, Ok, Err, true, false, Bool}
use Rattle.twkb_tree.specs.Limits.{Allowance}
use Rattle.twkb_tree.specs.Rows.{Row as TableRow, AreValidRowsOfOne}
use Rattle.twkb_tree.specs.declared.open_rows.OpenRow.{OpenRow}
use Rattle.twkb_tree.specs.Open.{AreOpen}
use Rattle.twkb_table.specs.Record.{Record}
use Rattle.twkb_table.specs.Waiting.{waiting_rows, AreWaiting}
use Rattle.twkb_points.specs.Point.{Point}
use Rattle.twkb_flat.specs.Rows.{row_with}
use Rattle.twkb_table.specs.Head.{head_row, JudgedAs}
use Rattle.twkb_table.specs.declared.head.RowHead.{RowHead}
use Rattle.twkb_table.specs.declared.row_reader.State.TheVariants as state
use Rattle.twkb_flat.specs.declared.stop.Stop.{Stop}
use Rattle.twkb_flat.specs.Taking.{IfRefused}
use Rattle.twkb_table.specs.Judged.{Verdict, Accepted, Refused, Judged}
use Rattle.twkb_table.specs.declared.reason.RowReason.{RowReason}
use Rattle.twkb_table.specs.declared.row_reader.RowReader.{RowReader}

-- the limits on a geometry
abbrev pub limits_of : RowReader → Allowance
limits_of reader = reader.limits

-- the root that waits with its points, if one does
abbrev pub waiting : RowReader → List TableRow
waiting reader = waiting_rows reader.state reader.points.items

-- these are the rows of the root that waits, if one does, after this record
abbrev pub Awaits : RowReader → Record → List TableRow → Type 0
Awaits reader fields rows = AreWaiting (limits_of reader) reader.state reader.points.items fields rows

-- The points of the root are accepted, and it waits with them or in its record.
pub record KeepsRoot (head : RowHead) (new : RowReader) : Type 0 where
  pub own : List Point
  pub judged : JudgedAs head (Accepted (row_with (head_row head) own))
  pub place : (waiting new ≡ row_with (head_row head) own ∷ []) ⊎ (new.state ≡ state.InRecord)

-- this is the verdict on the record after these rows of the last geometry, whatever rows come
-- before them; if there are none of these rows, no row comes before the record
abbrev pub JudgedAfter : Allowance → List TableRow → Record → Verdict → Type 0
JudgedAfter l rows fields v =
    (earlier : List TableRow) → (rows ≡ [] → earlier ≡ []) → Judged l (reverse (earlier ++ rows))
    fields v

-- These are rows of one valid geometry, and their open rows.
pub record Kept (l : Allowance) (rows : List TableRow) (open_rows : List OpenRow) : Type 0 where
  pub of_one : AreValidRowsOfOne l rows
  pub some : 0 < length rows
  pub are_open : AreOpen (reverse rows) open_rows

-- the reader keeps the open rows of these rows of a geometry that is being read
abbrev pub Keeps : RowReader → List TableRow → Type 0
Keeps reader rows = Kept (limits_of reader) rows reader.open_rows × (reader.state ≡ state.Spent)

-- The record is one more row of the geometry that the reader reads.
pub record GoesOn (old : RowReader) (before : List TableRow) (fields : Record) (new : RowReader)
    (after : List TableRow) : Type 0 where
  pub row : TableRow
  pub rows : after ≡ before ++ row ∷ []
  pub below : 0 < row.depth
  pub judged : JudgedAfter (limits_of old) before fields (Accepted row)
  pub keeps : Keeps new after

-- The record is the root of the next geometry, and waits.
pub record EndsBefore (old : RowReader) (before : List TableRow) (fields : Record) (new : RowReader) : Type 0 where
  pub row : TableRow
  pub waits : AreWaiting (limits_of old) new.state new.points.items fields (row ∷ [])
  pub root : row.depth ≡ 0
  pub judged : JudgedAfter (limits_of old) before fields (Accepted row)

-- the record after these rows is refused, or there was no memory for its row; the new reader is
-- spent
abbrev pub Refuses : RowReader → List TableRow → Record → Stop RowReason → RowReader → Type 0
Refuses old before fields why new =
    IfRefused (λ reason. JudgedAfter (limits_of old) before fields (Refused reason)) why ×
    (new.state ≡ state.Spent)

-- what the result of reading a record as a root says, before the first row or after a point that
-- waits: the root waits, or the record is refused
abbrev pub ReadsRoot : RowReader → Record → Result (Unit {0}) (Stop RowReason) → RowReader → Type 0
ReadsRoot old fields (Ok done) new = EndsBefore old (waiting old) fields new
ReadsRoot old fields (Err why) new = Refuses old (waiting old) fields why new

-- what the result of reading a record after rows of a geometry says: one more row of it, the root
-- of the next geometry, or a refusal
abbrev pub ReadsRow : RowReader → List TableRow → Record → Result Bool (Stop RowReason) → RowReader
    → List TableRow → Type 0
ReadsRow old before fields (Ok true) new after = GoesOn old before fields new after
ReadsRow old before fields (Ok false) new after = EndsBefore old before fields new ×
    (after ≡ before)
ReadsRow old before fields (Err why) new after = Refuses old before fields why new
