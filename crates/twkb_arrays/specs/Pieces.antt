-- A stream that is read in pieces: by calls, each of which is given a window of the bytes that those before it left.
use Rattle.std.specs.Prelude.{◌≡◌, ◌≢◌, ◌≤◌, ◌⊎◌, ◌+◌, ℕ, List, [], ◌∷◌, ◌++◌, length, take, drop, flat_map, map, ⊤}
use Rattle.std.specs.List.{AllByRecursion}
use Rattle.twkb_tree.specs.Tree.{Tree, saturated}
use Rattle.twkb_tree.specs.Rows.{rows_of, row_points}
use Rattle.twkb_tree.specs.Limits.{Allowance}
use Rattle.twkb_grammar.specs.Items.{Stream}
use Rattle.twkb_grammar.specs.Fault.{StreamFault}
use Rattle.twkb_engine.specs.Stops.{reason_of}
use Rattle.twkb_engine.specs.declared.blob_reason.BlobReason.{BlobReason}
use Rattle.twkb_engine.specs.declared.blob_reason.BlobReason.TheVariants as blob
use Rattle.twkb_buffer.specs.Numbers.{blob_number_of}
use Rattle.twkb_buffer.specs.declared.point.BufferPoint.{BufferPoint}
use Rattle.twkb_arrays.specs.Ends.{AreEnds, EndAt}
use Rattle.twkb_arrays.specs.FilledArrays.{BeginsWithBlobs, ReadsArrays, ReadsWithinRoom}
use Rattle.twkb_arrays.specs.SentBlobs.{StopsBefore}
use Rattle.twkb_arrays.specs.Rows.{LacksPlaces, array_points, array_rows}
use Rattle.twkb_arrays.specs.declared.row.BufferRow.{BufferRow}
use Rattle.twkb_arrays.specs.declared.filled_arrays.BufferCounts.{BufferCounts}

-- ==== Calls that read a stream, one after another.

-- What a call was given and what it gave: the bytes in its window, the arrays before it and after
-- it, and its counts.
pub record Call : Type 0 where
  pub window : List ℕ
  pub old_rows : List BufferRow
  pub old_points : List BufferPoint
  pub old_ends : List ℕ
  pub new_rows : List BufferRow
  pub new_points : List BufferPoint
  pub new_ends : List ℕ
  pub counts : BufferCounts

-- the call is one of `read_arrays` that does not stop
abbrev pub IsWholeCall : Allowance → Call → Type 0
IsWholeCall l c =
    ReadsArrays l c.window c.old_rows c.old_points c.old_ends c.new_rows c.new_points c.new_ends c.counts

-- the call is one of `read_arrays` that stops after a geometry without room
abbrev pub IsStoppingCall : Allowance → Call → Type 0
IsStoppingCall l c =
    ReadsWithinRoom l c.window c.old_rows c.old_points c.old_ends c.new_rows c.new_points c.new_ends c.counts

-- the call is one of `read_arrays`
abbrev pub IsCall : Allowance → Call → Type 0
IsCall l c = IsWholeCall l c ⊎ IsStoppingCall l c

-- the calls read the bytes in pieces: the window of each is a prefix, of any length, of the bytes
-- that those before it did not take
abbrev pub ReadInPieces : Allowance → List ℕ → List Call → Type 0
ReadInPieces l bytes [] = ⊤
ReadInPieces l bytes (c ∷ cs) = IsCall l c × ((rest : List ℕ) × (bytes ≡ c.window ++ rest))
    × ReadInPieces l (drop c.counts.taken bytes) cs

-- ==== What they gave.

-- the rows that calls wrote, one call after another
abbrev pub rows_by : List Call → List BufferRow
rows_by cs = flat_map (λ c. take c.counts.rows c.new_rows) cs

-- the points that calls wrote, one call after another
abbrev pub points_by : List Call → List BufferPoint
points_by cs = flat_map (λ c. take c.counts.points c.new_points) cs

-- the number of geometries that calls wrote
abbrev pub done_by : List Call → ℕ
done_by [] = 0
done_by (c ∷ cs) = c.counts.done + done_by cs

-- the number of bytes that calls took
abbrev pub taken_by : List Call → ℕ
taken_by [] = 0
taken_by (c ∷ cs) = c.counts.taken + taken_by cs

-- the ends that calls wrote, counted from this many bytes before the first window
abbrev pub ends_by : ℕ → List Call → List ℕ
ends_by before [] = []
ends_by before (c ∷ cs) = map (λ n. before + n) (take c.counts.done c.new_ends) ++ ends_by (before + c.counts.taken) cs

-- each of the calls was given an array of ends that has places
abbrev pub GetEnds : List Call → Type 0
GetEnds = AllByRecursion (λ c. c.old_ends ≢ [])

-- The calls wrote the rows and points of these geometries and, if they were asked for ends, those of
-- these in the bytes. The bytes that they took are exactly the blobs of these geometries.
pub record HaveRead (l : Allowance) (bytes : List ℕ) (cs : List Call) (gs : List Tree) : Type 0 where
  pub rows_are : rows_by cs ≡ array_rows gs
  pub points_are : points_by cs ≡ array_points gs
  pub done_is : done_by cs ≡ length gs
  pub taken_are : EndAt l bytes gs (taken_by cs)
  pub ends_are : GetEnds cs → AreEnds (EndAt l bytes) [] gs (ends_by 0 cs)

-- ==== The end of a stream.

-- No call is needed after this one, before which these bytes were left: it had memory, and room for
-- each geometry that it read; and its window was all of the bytes, or it refused an item for
-- another reason than that the window ends.
pub record IsLast (bytes : List ℕ) (c : Call) : Type 0 where
  pub memory : c.counts.status ≢ 4
  pub room : c.counts.status ≢ 5
  pub final : (c.window ≡ bytes) ⊎ ((c.counts.status ≡ 1) × (c.counts.reason ≢ blob_number_of blob.Truncated))

-- the bytes are a stream of these geometries, and the status is 0; or after their blobs an item at
-- this place is refused, the status is 1, and the reason is the number of the item's
abbrev pub EndsWith : Allowance → List ℕ → List Tree → (status reason place : ℕ) → Type 0
EndsWith l bytes gs status reason place = (Stream l bytes gs × (status ≡ 0) × (reason ≡ 0))
    ⊎ ((why : BlobReason) × StreamFault l bytes gs place (reason_of why) × (status ≡ 1)
    × (reason ≡ blob_number_of why))

-- Calls read these geometries, and the bytes end as the last call, which comes after those in
-- `before`, reports. It counts places from where its window begins.
pub record HaveReadAll (l : Allowance) (bytes : List ℕ) (before : List Call) (last : Call)
    (gs : List Tree) : Type 0 where
  pub have_read : HaveRead l bytes (before ++ last ∷ []) gs
  pub ended : EndsWith l bytes gs last.counts.status last.counts.reason (taken_by before + last.counts.place)

-- The arrays of a call have places for these numbers of rows, of points and, if it asks for ends, of
-- ends.
pub record HasPlaces (c : Call) (rows points ends : ℕ) : Type 0 where
  pub rows_fit : rows ≤ length c.old_rows
  pub points_fit : points ≤ length c.old_points
  pub ends_fit : (c.old_ends ≡ []) ⊎ (ends ≤ length c.old_ends)

-- the arrays of a call have places for these geometries
abbrev pub HasPlacesFor : Call → List Tree → Type 0
HasPlacesFor c gs = HasPlaces c (length (rows_of gs)) (length (row_points (rows_of gs))) (length gs)

-- Calls wrote what one call wrote, and the last of them, which comes after those in `before`, ended
-- as that one did.
pub record AddUpTo (one : Call) (before : List Call) (last : Call) : Type 0 where
  pub rows_are : take one.counts.rows one.new_rows ≡ rows_by (before ++ last ∷ [])
  pub points_are : take one.counts.points one.new_points ≡ points_by (before ++ last ∷ [])
  pub done_is : one.counts.done ≡ done_by (before ++ last ∷ [])
  pub taken_is : one.counts.taken ≡ taken_by (before ++ last ∷ [])
  pub status_is : one.counts.status ≡ last.counts.status
  pub reason_is : one.counts.reason ≡ last.counts.reason
  pub place_is : one.counts.status ≡ 1 → one.counts.place ≡ taken_by before + last.counts.place
  pub ends_are : one.old_ends ≢ [] → GetEnds (before ++ last ∷ [])
      → take one.counts.done one.new_ends ≡ ends_by 0 (before ++ last ∷ [])

-- ==== What a call reads and does not take.

-- A call took the blobs of some geometries. In its window those of others come next, which it read
-- and did not take, since its arrays lack places for the first of them; with status 5 there are
-- such. The needed rows and points are those that it wrote and those of these geometries.
pub record PassesOver (l : Allowance) (c : Call) (gs later : List Tree) : Type 0 where
  pub taken_are : EndAt l c.window gs c.counts.taken
  pub blobs : BeginsWithBlobs l (drop c.counts.taken c.window) later
  pub lacks : StopsBefore (LacksPlaces c.old_rows c.old_points c.old_ends) gs later
  pub full : c.counts.status ≡ 5 → later ≢ []
  pub needed_rows_is : c.counts.needed_rows ≡ saturated (c.counts.rows + length (rows_of later))
  pub needed_points_is : c.counts.needed_points ≡ saturated (c.counts.points + length (row_points (rows_of later)))
