-- The effect of a call that reads a stream into arrays, and the geometries that it takes.
use Rattle.std.specs.Prelude.{◌≡◌, ◌≤◌, List, [], ◌∷◌, ◌++◌, length, take, drop, ℕ, ◌<◌, ◌⊎◌, ◌≢◌}
use Rattle.std.specs.Prelude.{Bool, true, false, Result, Ok, Err}
use Rattle.twkb_tree.specs.Tree.{Tree, saturated}
use Rattle.twkb_tree.specs.Rows.{rows_of, row_points}
use Rattle.twkb_buffer.specs.declared.point.BufferPoint.{BufferPoint}
use Rattle.twkb_arrays.specs.SentBlobs.{FitCounted, StopsBefore, are_more}
use Rattle.twkb_arrays.specs.Ends.{EndAt, HasEnds}
use Rattle.twkb_arrays.specs.Rows.{HasRoom, LacksPlaces, array_points, array_rows, unless_full}
use Rattle.twkb_arrays.specs.declared.row.BufferRow.{BufferRow}
use Rattle.twkb_arrays.specs.declared.taken_geometries.Taken.{Taken}
use Rattle.twkb_io.specs.declared.TheConstants.{MAX_BYTES}
use Rattle.twkb_tree.specs.Limits.{Allowance}
use Rattle.twkb_grammar.specs.Items.{Stream}
use Rattle.twkb_grammar.specs.Fault.{StreamFault}
use Rattle.twkb_engine.specs.Stops.{reason_of}
use Rattle.twkb_blob.specs.declared.fault.BlobFault.{BlobFault}
use Rattle.twkb_blob.specs.declared.fault.BlobFault.TheVariants as fault
use Rattle.twkb_buffer.specs.Numbers.{blob_number_of}
use Rattle.twkb_blob.specs.Sessions.{Stands}
use Rattle.twkb_blob.specs.declared.session.Session.{Session}
use Rattle.twkb_arrays.specs.declared.filled_arrays.BufferCounts.{BufferCounts}

-- ==== The geometries that were taken into two arrays.

-- The rows and points of geometries are at the start of two arrays, and the places after them are
-- as they were.
pub record IsFilled (old_rows : List BufferRow) (old_points : List BufferPoint) (gs : List Tree)
    (new_rows : List BufferRow) (new_points : List BufferPoint) : Type 0 where
  pub rows_are : new_rows ≡ array_rows gs ++ drop (length (rows_of gs)) old_rows
  pub points_are : new_points ≡ array_points gs ++ drop (length (row_points (rows_of gs))) old_points
  pub room : HasRoom old_rows old_points gs

-- Of the geometries read so far, those in `given` were taken into the arrays. Those in `later` come
-- after them, and were only counted: there is no room for the first of these. The blobs of a list of
-- geometries end where `ends_at` says.
pub record HasTaken (ends_at : List Tree → ℕ → Type 0) (old_rows : List BufferRow)
    (old_points : List BufferPoint) (old_ends : List ℕ) (given later : List Tree)
    (new_rows : List BufferRow) (new_points : List BufferPoint) (new_ends : List ℕ)
    (taken : Taken) : Type 0 where
  pub filled : IsFilled old_rows old_points given new_rows new_points
  pub ends : HasEnds ends_at old_ends given new_ends
  pub fit : FitCounted (LacksPlaces old_rows old_points old_ends) given later taken.passed taken.done
  pub rows_is : taken.rows ≡ length (rows_of given)
  pub points_is : taken.points ≡ length (row_points (rows_of given))
  pub bytes_is : ends_at given taken.bytes
  pub passed_rows_is : taken.passed_rows ≡ saturated (length (rows_of later))
  pub passed_points_is : taken.passed_points ≡ saturated (length (row_points (rows_of later)))

-- What was taken is in two arrays: they have as many places, and each geometry has a row.
pub record IsWithin (in_rows : List BufferRow) (in_points : List BufferPoint) (taken : Taken) : Type 0 where
  pub rows_fit : taken.rows ≤ length in_rows
  pub points_fit : taken.points ≤ length in_points
  pub few : taken.done ≤ taken.rows

-- One more geometry was read after others, and all of them were taken or counted.
abbrev pub TakesOne : (List Tree → ℕ → Type 0) → List BufferRow → List BufferPoint → List ℕ → List Tree
    → Tree → List BufferRow → List BufferPoint → List ℕ → Taken → Type 0
TakesOne ends_at old_rows old_points old_ends gs g new_rows new_points new_ends taken = (given later : List Tree)
    × (given ++ later ≡ gs ++ g ∷ [])
    × HasTaken ends_at old_rows old_points old_ends given later new_rows new_points new_ends taken

-- ==== The effect of a call that reads a stream into arrays.

-- the bytes begin with blobs of these geometries
abbrev pub BeginsWithBlobs : Allowance → List ℕ → List Tree → Type 0
BeginsWithBlobs l bytes gs = (front rest : List ℕ) × (bytes ≡ front ++ rest) × Stream l front gs

-- How the reading of bytes ended, after these geometries: the bytes are a stream of them; or an item
-- after them is refused; or there are more than 2^62 bytes; or memory was refused.
abbrev pub EndsReading : {A : Type 0} → Allowance → List ℕ → List Tree → Result A BlobFault → Type 0
EndsReading l bytes gs (Ok done) = Stream l bytes gs
EndsReading l bytes gs (Err (fault.At offset reason)) = StreamFault l bytes gs offset (reason_of reason)
EndsReading l bytes gs (Err (fault.Device why)) = (MAX_BYTES < length bytes) × BeginsWithBlobs l bytes gs
EndsReading l bytes gs (Err fault.Memory) = BeginsWithBlobs l bytes gs
EndsReading l bytes gs (Err fault.Spent) = ⊥

-- The session stands after these bytes, and of their geometries the first were taken.
abbrev pub IsReading : Allowance → List BufferRow → List BufferPoint → List ℕ → List ℕ → List BufferRow
    → List BufferPoint → List ℕ → Session → Taken → Type 0
IsReading l start_rows start_points start_ends bytes in_rows in_points in_ends session taken =
    (given later : List Tree) × Stands bytes (given ++ later) session
    × HasTaken (EndAt l bytes) start_rows start_points start_ends given later in_rows in_points in_ends taken

-- The reading of bytes stopped after geometries of which the first were taken.
abbrev pub StopsReading : Allowance → List BufferRow → List BufferPoint → List ℕ → List ℕ → List BufferRow
    → List BufferPoint → List ℕ → Taken → BlobFault → Type 0
StopsReading l start_rows start_points start_ends bytes in_rows in_points in_ends taken why =
    (given later : List Tree)
    × HasTaken (EndAt l bytes) start_rows start_points start_ends given later in_rows in_points in_ends taken
    × EndsReading {A = Unit {0}} l bytes (given ++ later) (Err why)

-- The first of some bytes were read: all, or those up to the end of a geometry for which there is
-- no room, if the reading stops there.
pub record ReadsTo {A : Type 0} (l : Allowance) (stops : Bool) (bytes : List ℕ) (old_rows : List BufferRow)
    (old_points : List BufferPoint) (old_ends : List ℕ) (new_rows : List BufferRow)
    (new_points : List BufferPoint) (new_ends : List ℕ) (taken : Taken) (answer : Result A BlobFault) : Type 0 where
  pub count : ℕ
  pub given : List Tree
  pub later : List Tree
  pub has_taken : HasTaken (EndAt l (take count bytes)) old_rows old_points old_ends given later new_rows
      new_points new_ends taken
  pub ended : EndsReading l (take count bytes) (given ++ later) answer
  pub within : count ≤ length bytes
  pub one : stops ≡ true → length later ≤ 1
  pub exact : stops ≡ true → later ≢ [] → Stream l (take count bytes) (given ++ later)
  pub all : (stops ≡ false) ⊎ (later ≡ []) → count ≡ length bytes

-- the status, the reason and the place of a reading that ended like this, given whether there was
-- too little room for a geometry: 4 without memory, 5 without room, 1 for a refusal, and 0
abbrev pub outcome_of : {A : Type 0} → Bool → Result A BlobFault → ℕ × ℕ × ℕ
outcome_of full (Ok done) = unless_full full (0, 0, 0)
outcome_of full (Err fault.Memory) = (4, 0, 0)
outcome_of full (Err fault.Spent) = (4, 0, 0)
outcome_of full (Err (fault.Device why)) = unless_full full (1, 61, 0)
outcome_of full (Err (fault.At offset reason)) = unless_full full (1, blob_number_of reason, offset)

-- What the counts of a call state: how it ended, the geometries in the arrays with their rows,
-- points and bytes, and the rows and points of all geometries that were read.
pub record CountsAs {A : Type 0} (ends_at : List Tree → ℕ → Type 0) (given later : List Tree)
    (answer : Result A BlobFault) (counts : BufferCounts) : Type 0 where
  pub status_is : counts.status ≡ (outcome_of (are_more later) answer).0
  pub reason_is : counts.reason ≡ (outcome_of (are_more later) answer).1
  pub place_is : counts.place ≡ (outcome_of (are_more later) answer).2
  pub done_is : counts.done ≡ length given
  pub rows_is : counts.rows ≡ length (rows_of given)
  pub points_is : counts.points ≡ length (row_points (rows_of given))
  pub needed_rows_is : counts.needed_rows ≡ saturated (length (rows_of (given ++ later)))
  pub needed_points_is : counts.needed_points ≡ saturated (length (row_points (rows_of (given ++ later))))
  pub taken_is : ends_at given counts.taken

-- A call read the geometries of bytes, to the end of the bytes or to where it was stopped. The first
-- ones are at the start of the arrays, and the places after them are as they were. The others were
-- counted, since there is no room for the first of these.
pub record ReadsArrays (l : Allowance) (bytes : List ℕ) (old_rows : List BufferRow)
    (old_points : List BufferPoint) (old_ends : List ℕ) (new_rows : List BufferRow)
    (new_points : List BufferPoint) (new_ends : List ℕ) (counts : BufferCounts) : Type 0 where
  pub given : List Tree
  pub later : List Tree
  pub filled : IsFilled old_rows old_points given new_rows new_points
  pub ends : HasEnds (EndAt l bytes) old_ends given new_ends
  pub stops : StopsBefore (LacksPlaces old_rows old_points old_ends) given later
  pub answer : Result (Unit {0}) BlobFault
  pub ended : EndsReading l bytes (given ++ later) answer
  pub counted : CountsAs (EndAt l bytes) given later answer counts

-- A call read bytes as such a call reads the first ones: all of them, or those of the blobs up to the
-- first geometry for which there is no room, and no byte after it.
pub record ReadsWithinRoom (l : Allowance) (bytes : List ℕ) (old_rows : List BufferRow)
    (old_points : List BufferPoint) (old_ends : List ℕ) (new_rows : List BufferRow)
    (new_points : List BufferPoint) (new_ends : List ℕ) (counts : BufferCounts) : Type 0 where
  pub count : ℕ
  pub reads : ReadsArrays l (take count bytes) old_rows old_points old_ends new_rows new_points new_ends counts
  pub within : count ≤ length bytes
  pub one : length reads.later ≤ 1
  pub exact : reads.later ≢ [] → Stream l (take count bytes) (reads.given ++ reads.later)
  pub all : reads.later ≡ [] → count ≡ length bytes
