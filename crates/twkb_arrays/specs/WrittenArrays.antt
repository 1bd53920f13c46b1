-- The effect of a call that writes arrays as a stream.
use Rattle.std.specs.Prelude.{◌≡◌, ℕ, ◌+◌, ◌<◌, ◌≤◌, List, [], ◌∷◌, ◌++◌, length, take, drop, Bool, true, false, ◌⊎◌}
use Rattle.std.specs.Prelude.{Result, Ok, Err, Option, Some, None, ⊤, if◌then◌else◌}
use Rattle.twkb_tree.specs.Tree.{Tree, saturated}
use Rattle.twkb_tree.specs.Limits.{Allowance}
use Rattle.twkb_tree.specs.Rows.{Row, rows_of, row_points, AreValid, AreValidRowsOfOne}
use Rattle.twkb_flat.specs.declared.stop.Stop.{Stop}
use Rattle.twkb_flat.specs.declared.stop.Stop.TheVariants as stop
use Rattle.twkb_grammar.specs.Written.{canonical_blob, canonical_stream}
use Rattle.twkb_grammar.specs.declared.style.Style.{Style}
use Rattle.twkb_buffer.specs.Polylines.{coordinates_of}
use Rattle.twkb_buffer.specs.declared.point.BufferPoint.{BufferPoint}
use Rattle.twkb_buffer.specs.declared.report.BufferReport.{BufferReport}
use Rattle.twkb_arrays.specs.JudgedRow.{BeginWithRoot, RefusedAfter, index_outside}
use Rattle.twkb_arrays.specs.Ends.{HasEnds, SentTo}
use Rattle.twkb_arrays.specs.SentBlobs.{AreTaken, StopsBefore, are_more, HasSent, IsStreamIn, LacksBlobRoom}
use Rattle.twkb_arrays.specs.SentBlobs.{IsSentWithin, SendsOne}
use Rattle.twkb_arrays.specs.Rows.{array_points, array_rows, rows_in_c, unless_full}
use Rattle.twkb_arrays.specs.declared.row.BufferRow.{BufferRow}
use Rattle.twkb_arrays.specs.declared.sent_blobs.Sent.{Sent}
use Rattle.twkb_arrays.specs.declared.writer.ReadCounts.{ReadCounts}
use Rattle.twkb_arrays.specs.declared.writer.Writer.{Writer}
use Rattle.twkb_arrays.specs.declared.written_arrays.RefusedAt.{RefusedAt}

-- The arrays are those of these geometries, which keep the limits.
pub record AreArrays (l : Allowance) (gs : List Tree) (in_rows : List BufferRow)
    (in_points : List BufferPoint) : Type 0 where
  pub valid : AreValid l gs
  pub rows_are : in_rows ≡ array_rows gs
  pub points_are : in_points ≡ array_points gs

-- The arrays are those of complete geometries, and of one more, the open one, as far as it was
-- read. All keep the limits.
pub record AreRead (l : Allowance) (gs : List Tree) (begun : List Row) (in_rows : List BufferRow)
    (in_points : List BufferPoint) : Type 0 where
  pub valid : AreValid l gs
  pub begun_valid : AreValidRowsOfOne l begun
  pub rows_are : in_rows ≡ rows_in_c (rows_of gs ++ begun)
  pub points_are : in_points ≡ coordinates_of (row_points (rows_of gs ++ begun))

-- The arrays begin with those of complete geometries and of the open one.
pub record BeginArrays (l : Allowance) (gs : List Tree) (in_rows : List BufferRow)
    (in_points : List BufferPoint) : Type 0 where
  pub begun : List Row
  pub front_rows : List BufferRow
  pub more : List BufferRow
  pub front_points : List BufferPoint
  pub ahead : List BufferPoint
  pub rows_are : in_rows ≡ front_rows ++ more
  pub points_are : in_points ≡ front_points ++ ahead
  pub read : AreRead l gs begun front_rows front_points

-- After the rows of complete geometries and of the open one comes a row that is refused, at this
-- place and for the reason with this number; if one of its points is out of range, the first such
-- point is at this index. No geometry is open if it is a root, and only then, but for the first
-- row.
pub record IsRefusedRow (l : Allowance) (gs : List Tree) (in_rows : List BufferRow)
    (in_points : List BufferPoint) (place number index : ℕ) : Type 0 where
  pub begun : List Row
  pub front_rows : List BufferRow
  pub row : BufferRow
  pub more : List BufferRow
  pub front_points : List BufferPoint
  pub ahead : List BufferPoint
  pub rows_are : in_rows ≡ front_rows ++ row ∷ more
  pub points_are : in_points ≡ front_points ++ ahead
  pub read : AreRead l gs begun front_rows front_points
  pub root : row.depth ≡ 0 → begun ≡ []
  pub first : begun ≡ [] → (row.depth ≡ 0) ⊎ (front_rows ≡ [])
  pub refused : RefusedAfter l begun row ahead number
  pub place_is : place ≡ length front_rows
  pub index_is : index ≡ index_outside number ahead

-- All rows are those of complete geometries and of the open one, which is the last, and points are
-- left over. The place is the number of rows.
pub record ArePointsLeft (l : Allowance) (gs : List Tree) (in_rows : List BufferRow)
    (in_points : List BufferPoint) (place number index : ℕ) : Type 0 where
  pub begun : List Row
  pub front_points : List BufferPoint
  pub left : List BufferPoint
  pub points_are : in_points ≡ front_points ++ left
  pub read : AreRead l gs begun in_rows front_points
  pub last : begun ≡ [] → in_rows ≡ []
  pub some : 0 < length left
  pub place_is : place ≡ length in_rows
  pub number_is : number ≡ 72
  pub index_is : index ≡ 0

-- How the writing of arrays ended, after these complete geometries: the arrays are theirs; or a row
-- after them is refused, or the points that are left over; or memory was refused.
abbrev pub EndsWriting : {A : Type 0} → Allowance → List Tree → List BufferRow → List BufferPoint
    → Result A (Stop RefusedAt) → Type 0
EndsWriting l gs in_rows in_points (Ok done) = AreArrays l gs in_rows in_points
EndsWriting l gs in_rows in_points (Err (stop.Refused at)) =
    IsRefusedRow l gs in_rows in_points at.place at.number at.index
    ⊎ ArePointsLeft l gs in_rows in_points at.place at.number at.index
EndsWriting l gs in_rows in_points (Err stop.Memory) = BeginArrays l gs in_rows in_points

-- ---- the state between two rows

-- The arrays are those of complete geometries, of which the first were written, and of the open
-- one, whose rows the writer has.
pub record IsWriting (l : Allowance) (style : Style) (start start_ends : List ℕ) (in_rows : List BufferRow)
    (in_points : List BufferPoint) (in_output in_ends : List ℕ) (writer : Writer) : Type 0 where
  pub given : List Tree
  pub later : List Tree
  pub read : AreRead l (given ++ later) writer.open_geometry in_rows in_points
  pub sent : HasSent style start start_ends given later in_output in_ends writer.sent

-- so many rows and points were read: those of complete geometries, and of the open one
pub record AreCounted (gs : List Tree) (begun : List Row) (read : ReadCounts) : Type 0 where
  pub rows_are : read.rows ≡ length (rows_of gs) + length begun
  pub points_are : read.points ≡ length (row_points (rows_of gs)) + length (row_points begun)

-- the numbers are those of these rows and points
abbrev pub AreAsMany : List BufferRow → List BufferPoint → ReadCounts → Type 0
AreAsMany in_rows in_points read = (read.rows ≡ length in_rows) × (read.points ≡ length in_points)

-- whatever rows and points the old writer has read, if they are so many, the new writer has read the same
abbrev pub StaysWriting : Style → ReadCounts → List ℕ → List ℕ → Writer → List ℕ → List ℕ → Writer → Type 0
StaysWriting style read before before_ends old after after_ends new =
    (l : Allowance) (start start_ends : List ℕ) (in_rows : List BufferRow) (in_points : List BufferPoint)
    → AreAsMany in_rows in_points read
    → IsWriting l style start start_ends in_rows in_points before before_ends old
    → IsWriting l style start start_ends in_rows in_points after after_ends new

-- whatever rows and points the old writer has read, if they are so many, the new writer has read these
-- after them
abbrev pub ReadsMore : Allowance → Style → ReadCounts → List BufferRow → List BufferPoint → List ℕ → List ℕ
    → Writer → List ℕ → List ℕ → Writer → Type 0
ReadsMore l style read rows points before before_ends old after after_ends new =
    (start start_ends : List ℕ) (in_rows : List BufferRow) (in_points : List BufferPoint)
    → AreAsMany in_rows in_points read
    → IsWriting l style start start_ends in_rows in_points before before_ends old
    → IsWriting l style start start_ends (in_rows ++ rows) (in_points ++ points) after after_ends new

-- The call stopped after a blob for which there was no room: whatever rows and points the old writer has
-- read, if they are so many, the new writer has read the first of these after them, up to the end of that
-- blob's geometry.
pub record StopsFull (l : Allowance) (style : Style) (stops : Bool) (read : ReadCounts) (rows : List BufferRow)
    (points : List BufferPoint) (before before_ends : List ℕ) (old : Writer) (after after_ends : List ℕ)
    (new : Writer) : Type 0 where
  pub may : stops ≡ true
  pub some : 0 < new.sent.passed
  pub one : new.sent.passed ≤ 1
  pub closed : new.open_geometry ≡ []
  pub count : ℕ
  pub point_count : ℕ
  pub rows_within : count ≤ length rows
  pub points_within : point_count ≤ length points
  pub reads : ReadsMore l style read (take count rows) (take point_count points) before before_ends old after
      after_ends new

-- a call that stops at the first blob without room has passed none
abbrev pub GoesOn : Bool → Sent → Type 0
GoesOn stops sent = stops ≡ true → sent.passed ≡ 0

-- why arrays are not written past the row at a place, given the points from its first one on
abbrev pub stopped_at : ℕ → List BufferPoint → Stop ℕ → Stop RefusedAt
stopped_at place ahead stop.Memory = stop.Memory
stopped_at place ahead (stop.Refused number) =
    stop.Refused (record { place = place; number = number; index = index_outside number ahead })

-- The writing of arrays stopped for this reason, after complete geometries of which the first were
-- written, when so many rows and points were read.
abbrev pub StopsWriting : Allowance → Style → List ℕ → List ℕ → List BufferRow → List BufferPoint → List ℕ
    → List ℕ → Writer → ReadCounts → Stop RefusedAt → Type 0
StopsWriting l style start start_ends in_rows in_points in_output in_ends writer read why =
    (given later : List Tree) × HasSent style start start_ends given later in_output in_ends writer.sent
    × AreCounted (given ++ later) writer.open_geometry read
    × EndsWriting {A = Unit {0}} l (given ++ later) in_rows in_points (Err why)

-- whatever the arrays are of whose geometries the old writer has written the first, when so many rows
-- and points were read, the new writer has the numbers of rows and points that these took
abbrev pub MarksTaken : ReadCounts → Writer → Writer → Type 0
MarksTaken read old new = (style : Style) (start start_ends in_output in_ends : List ℕ) (given later : List Tree)
    → HasSent style start start_ends given later in_output in_ends old.sent
    → AreCounted (given ++ later) old.open_geometry read
    → HasSent style start start_ends given later in_output in_ends new.sent × AreTaken given new.sent

-- whatever the arrays are of whose geometries the old writer has written the first, when so many rows
-- and points were read, the new writer has one more to count, which has this blob
abbrev pub PassesBlob : List ℕ → ReadCounts → Writer → Writer → Type 0
PassesBlob blob read old new = (style : Style) (start start_ends in_output in_ends : List ℕ)
    (given later : List Tree) (g : Tree)
    → HasSent style start start_ends given later in_output in_ends old.sent
    → AreCounted (given ++ later) old.open_geometry read → blob ≡ canonical_blob style g
    → (0 < old.sent.passed) ⊎ LacksBlobRoom style start start_ends (given ++ g ∷ [])
    → SendsOne style start start_ends (given ++ later) g in_output in_ends new.sent

-- whatever the arrays are of whose geometries the old writer has written the first, when so many rows
-- and points were read, the new writer has one more written or counted, which has this blob
abbrev pub SendsBlob : List ℕ → ReadCounts → List ℕ → List ℕ → Writer → List ℕ → List ℕ → Writer → Type 0
SendsBlob blob read before before_ends old after after_ends new = (style : Style)
    (start start_ends : List ℕ) (given later : List Tree) (g : Tree)
    → HasSent style start start_ends given later before before_ends old.sent
    → AreCounted (given ++ later) old.open_geometry read → blob ≡ canonical_blob style g
    → SendsOne style start start_ends (given ++ later) g after after_ends new.sent

-- The first of some rows and points were read: all, or those up to the end of a geometry for whose blob
-- there is no room, if the writing stops there.
pub record WritesTo {A : Type 0} (l : Allowance) (style : Style) (stops : Bool) (in_rows : List BufferRow)
    (in_points : List BufferPoint) (old old_ends new new_ends : List ℕ) (sent : Sent)
    (answer : Result A (Stop RefusedAt)) : Type 0 where
  pub row_count : ℕ
  pub point_count : ℕ
  pub given : List Tree
  pub later : List Tree
  pub has_sent : HasSent style old old_ends given later new new_ends sent
  pub taken : AreTaken given sent
  pub ended : EndsWriting l (given ++ later) (take row_count in_rows) (take point_count in_points) answer
  pub rows_within : row_count ≤ length in_rows
  pub points_within : point_count ≤ length in_points
  pub one : stops ≡ true → length later ≤ 1
  pub all : (stops ≡ false) ⊎ (later ≡ []) → (row_count ≡ length in_rows) × (point_count ≡ length in_points)

-- Some rows are ahead, the outputs have the earlier blobs, the call goes on, and the rows of the open
-- geometry are valid.
pub record MayRead (l : Allowance) (stops : Bool) (rows : List BufferRow) (in_output in_ends : List ℕ)
    (writer : Writer) : Type 0 where
  pub some : 0 < length rows
  pub within : IsSentWithin in_output in_ends writer.sent
  pub on : GoesOn stops writer.sent
  pub valid : AreValidRowsOfOne l writer.open_geometry

-- The first of the rows ahead was read with this many of the points ahead, and the call goes on. If no
-- geometry is open, a root comes next.
pub record HasReadRow (l : Allowance) (style : Style) (stops : Bool) (read : ReadCounts) (rows : List BufferRow)
    (ahead : List BufferPoint) (before before_ends : List ℕ) (old : Writer) (after after_ends : List ℕ)
    (new : Writer) (count : ℕ) : Type 0 where
  pub few : count ≤ length ahead
  pub closed : new.open_geometry ≡ [] → BeginWithRoot (drop 1 rows)
  pub reads : ReadsMore l style read (take 1 rows) (take count ahead) before before_ends old after after_ends new
  pub on : GoesOn stops new.sent

-- whatever rows and points the old writer has read, if they are so many and the first row is a root if
-- none is open, the writing stops for this reason at the first of the rows ahead; if the call stops at a
-- blob without room, at most one was passed
abbrev pub StopsAtRow : Allowance → Style → Bool → ReadCounts → List BufferRow → List BufferPoint → List ℕ → List ℕ
    → Writer → List ℕ → List ℕ → Writer → Stop ℕ → Type 0
StopsAtRow l style stops read rows ahead before before_ends old after after_ends new why =
    (stops ≡ true → new.sent.passed ≤ 1) × ((start start_ends : List ℕ) (in_rows : List BufferRow) (in_points :
    List BufferPoint)
    → AreAsMany in_rows in_points read
    → IsWriting l style start start_ends in_rows in_points before before_ends old
    → (old.open_geometry ≡ [] → (in_rows ≡ []) ⊎ BeginWithRoot rows)
    → StopsWriting l style start start_ends (in_rows ++ rows) (in_points ++ ahead) after after_ends new read
    (stopped_at (length in_rows) ahead why))

-- unless all rows and points were read, the first were, to where the writing ended
abbrev pub EndsEarly : Allowance → Style → Bool → List BufferRow → List BufferPoint → List ℕ → List ℕ
    → List ℕ → List ℕ → Sent → Result (Option ℕ) (Stop RefusedAt) → Type 0
EndsEarly l style stops in_rows in_points old old_ends new new_ends sent (Ok (Some used)) = ⊤
EndsEarly l style stops in_rows in_points old old_ends new new_ends sent (Ok None) =
    WritesTo {A = Unit {0}} l style stops in_rows in_points old old_ends new new_ends sent (Ok tt)
EndsEarly l style stops in_rows in_points old old_ends new new_ends sent (Err why) =
    WritesTo {A = Unit {0}} l style stops in_rows in_points old old_ends new new_ends sent (Err why)

-- ---- the report

-- the status, the reason and the place of a writing that ended like this, given whether there was
-- too little room for a blob: 4 without memory, 5 without room, 1 for a refusal, and 0
abbrev pub write_outcome_of : {A : Type 0} → Bool → Result A (Stop RefusedAt) → ℕ × ℕ × ℕ
write_outcome_of full (Ok done) = unless_full full (0, 0, 0)
write_outcome_of full (Err stop.Memory) = (4, 0, 0)
write_outcome_of full (Err (stop.Refused at)) = unless_full full (1, at.number, at.place)

-- the index of the point for which a row was refused, of a writing that ended like this, given
-- whether there was too little room for a blob
abbrev pub write_index_of : {A : Type 0} → Bool → Result A (Stop RefusedAt) → ℕ
write_index_of full (Ok done) = 0
write_index_of full (Err stop.Memory) = 0
write_index_of full (Err (stop.Refused at)) = if full then 0 else at.index

-- What the report of a call states: how it ended, the blobs in the output with their bytes and the
-- rows and points that they took, and the bytes of the blobs of all complete geometries.
pub record ReportsAs {A : Type 0} (style : Style) (given later : List Tree) (answer : Result A (Stop RefusedAt))
    (report : BufferReport) : Type 0 where
  pub status_is : report.status ≡ (write_outcome_of (are_more later) answer).0
  pub reason_is : report.reason ≡ (write_outcome_of (are_more later) answer).1
  pub place_is : report.place ≡ (write_outcome_of (are_more later) answer).2
  pub text_offset_is : report.text_offset ≡ write_index_of (are_more later) answer
  pub done_is : report.done ≡ length given
  pub sent_is : report.sent ≡ length (canonical_stream style given)
  pub needed_is : report.needed ≡ saturated (length (canonical_stream style (given ++ later)))
  pub taken_is : report.taken ≡ length (rows_of given)
  pub taken_points_is : report.taken_points ≡ length (row_points (rows_of given))

-- A call read the geometries of arrays, to the end or to where it was stopped. The canonical blobs
-- of the first ones are at the start of the output, with their ends in an array, and the bytes and
-- places after them are as they were. The others were counted, since there is no room for the first
-- of these.
pub record WritesArrays (l : Allowance) (style : Style) (in_rows : List BufferRow)
    (in_points : List BufferPoint) (old old_ends new new_ends : List ℕ) (report : BufferReport) : Type 0 where
  pub given : List Tree
  pub later : List Tree
  pub written : IsStreamIn style old given new
  pub ends : HasEnds (SentTo style) old_ends given new_ends
  pub stops : StopsBefore (LacksBlobRoom style old old_ends) given later
  pub answer : Result (Unit {0}) (Stop RefusedAt)
  pub ended : EndsWriting l (given ++ later) in_rows in_points answer
  pub reported : ReportsAs style given later answer report

-- A call wrote arrays as such a call writes the first rows and points: all of them, or those up to the
-- end of the first geometry for whose blob there is no room.
pub record WritesWithinRoom (l : Allowance) (style : Style) (in_rows : List BufferRow)
    (in_points : List BufferPoint) (old old_ends new new_ends : List ℕ) (report : BufferReport) : Type 0 where
  pub row_count : ℕ
  pub point_count : ℕ
  pub writes : WritesArrays l style (take row_count in_rows) (take point_count in_points) old old_ends new
      new_ends report
  pub rows_within : row_count ≤ length in_rows
  pub points_within : point_count ≤ length in_points
  pub one : length writes.later ≤ 1
  pub all : writes.later ≡ [] → (row_count ≡ length in_rows) × (point_count ≡ length in_points)
