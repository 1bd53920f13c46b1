-- The blobs of geometries that are written into a slice, as far as there is room.
use Rattle.std.specs.Prelude.{◌≡◌, ℕ, ◌+◌, List, [], ◌∷◌, ◌++◌, length, Bool, true, false, ⊤, ◌<◌, ◌≤◌, ◌⊎◌, drop}
use Rattle.twkb_tree.specs.Tree.{Tree, saturated}
use Rattle.twkb_tree.specs.Rows.{rows_of, row_points}
use Rattle.twkb_io.specs.Bytes.{bytes_of}
use Rattle.twkb_arrays.specs.declared.blob_room.BlobRoom.{BlobRoom}
use Rattle.twkb_grammar.specs.Written.{canonical_blob, canonical_stream}
use Rattle.twkb_grammar.specs.declared.style.Style.{Style}
use Rattle.twkb_arrays.specs.Ends.{HasEnds, LacksEndRoom, SentTo}
use Rattle.twkb_arrays.specs.declared.sent_blobs.Sent.{Sent}

-- ==== The geometries for which there was room, and those after them.

-- there is no room for the first of some more geometries, if there are more
abbrev pub StopsBefore : (List Tree → Type 0) → List Tree → List Tree → Type 0
StopsBefore lacks given [] = ⊤
StopsBefore lacks given (g ∷ later) = lacks (given ++ g ∷ [])

-- whether there are more geometries
abbrev pub are_more : List Tree → Bool
are_more [] = false
are_more (g ∷ later) = true

-- There was room for the geometries in `given`, whose number is `done`, and not for the first of
-- those in `later`, if there are any; `passed` is the number of these.
pub record FitCounted (lacks : List Tree → Type 0) (given later : List Tree) (passed done : ℕ) : Type 0 where
  pub stops : StopsBefore lacks given later
  pub passed_is : passed ≡ saturated (length later)
  pub done_is : done ≡ length given

-- ==== The blob that is in a room.

-- the blob that was made last
abbrev pub blob_in : BlobRoom → List ℕ
blob_in room = bytes_of room.bytes

-- ==== The blobs of geometries that were written into a slice.

-- the slice has no room for the stream of these geometries
abbrev pub LacksBytes : Style → List ℕ → List Tree → Type 0
LacksBytes style old gs = length old < length (canonical_stream style gs)

-- a slice has no room for the stream of these geometries, or an array too few places for their ends
abbrev pub LacksBlobRoom : Style → List ℕ → List ℕ → List Tree → Type 0
LacksBlobRoom style old old_ends gs = LacksBytes style old gs ⊎ LacksEndRoom old_ends gs

-- The stream of geometries is at the start of a slice, and the bytes after it are as they were.
pub record IsStreamIn (style : Style) (old : List ℕ) (gs : List Tree) (new : List ℕ) : Type 0 where
  pub bytes_are : new ≡ canonical_stream style gs ++ drop (length (canonical_stream style gs)) old
  pub room : length (canonical_stream style gs) ≤ length old

-- The numbers of rows and points are those of these geometries.
pub record AreTaken (gs : List Tree) (sent : Sent) : Type 0 where
  pub rows_are : sent.rows ≡ length (rows_of gs)
  pub points_are : sent.points ≡ length (row_points (rows_of gs))

-- a blob may be written if there is room for it: none was passed, and there is a place for one more end
abbrev pub IsOpen : ℕ → Sent → Type 0
IsOpen end_room sent = (sent.passed ≡ 0) × ((end_room ≡ 0) ⊎ (sent.done < end_room))

-- no blob is written any more: one was passed, or there is no place for one more end
abbrev pub IsClosed : ℕ → Sent → Type 0
IsClosed end_room sent = (0 < sent.passed) ⊎ ((0 < end_room) × (end_room ≤ sent.done))

-- one more blob may reach the end of the slice, or there is no room for one
abbrev pub IsLimited : ℕ → ℕ → Sent → Type 0
IsLimited byte_room end_room sent = ((sent.limit ≡ byte_room) × IsOpen end_room sent)
    ⊎ ((sent.limit ≡ sent.bytes) × IsClosed end_room sent)

-- with one more blob in the slice than are counted, the limit is as it was, or there is no place for one
-- more end, and no room for one more blob
abbrev pub LimitsAfter : ℕ → Sent → Sent → Type 0
LimitsAfter end_room old new = ((new.limit ≡ old.limit) × ((end_room ≡ 0) ⊎ (old.done + 1 < end_room)))
    ⊎ ((new.limit ≡ old.bytes) × (0 < end_room) × (end_room ≤ old.done + 1))

-- Of the geometries whose blobs were made so far, those in `given` were written into the slice, with
-- their ends into an array. Those in `later` come after them, and were only counted: there is no room
-- for the first of these.
pub record HasSent (style : Style) (old old_ends : List ℕ) (given later : List Tree) (new new_ends : List ℕ)
    (sent : Sent) : Type 0 where
  pub filled : IsStreamIn style old given new
  pub ends : HasEnds (SentTo style) old_ends given new_ends
  pub fit : FitCounted (LacksBlobRoom style old old_ends) given later sent.passed sent.done
  pub bytes_is : sent.bytes ≡ length (canonical_stream style given)
  pub passed_bytes_is : sent.passed_bytes ≡ saturated (length (canonical_stream style later))
  pub limited : IsLimited (length old) (length old_ends) sent
  pub taken : (later ≡ []) ⊎ AreTaken given sent

-- What was written is in the slice: it has as many bytes, and each blob has one.
pub record IsSentWithin (in_output in_ends : List ℕ) (sent : Sent) : Type 0 where
  pub bytes_fit : sent.bytes ≤ sent.limit
  pub limit_fits : sent.limit ≤ length in_output
  pub few : sent.done ≤ sent.bytes
  pub limited : IsLimited (length in_output) (length in_ends) sent

-- One more blob was made after others, and all of them were written or counted.
abbrev pub SendsOne : Style → List ℕ → List ℕ → List Tree → Tree → List ℕ → List ℕ → Sent → Type 0
SendsOne style old old_ends gs g new new_ends sent = (given later : List Tree) × (given ++ later ≡ gs ++ g ∷ [])
    × HasSent style old old_ends given later new new_ends sent

-- if the blob is that of a geometry, then whatever blobs were made before, it is made after them,
-- and all are written or counted
abbrev pub Sends : List ℕ → List ℕ → List ℕ → Sent → List ℕ → List ℕ → Sent → Type 0
Sends blob old old_ends before new new_ends after = (style : Style) (start start_ends : List ℕ)
    (given later : List Tree) (g : Tree) → HasSent style start start_ends given later old old_ends before
    → blob ≡ canonical_blob style g
    → SendsOne style start start_ends (given ++ later) g new new_ends after

-- if the blob is that of a geometry, then whatever blobs were made before, there was no room for one of
-- them, or there is none for this one
abbrev pub LacksRoomFor : List ℕ → List ℕ → List ℕ → Sent → Type 0
LacksRoomFor blob in_output in_ends sent = (style : Style) (start start_ends : List ℕ)
    (given later : List Tree) (g : Tree) → HasSent style start start_ends given later in_output in_ends sent
    → blob ≡ canonical_blob style g → (0 < sent.passed) ⊎ LacksBlobRoom style start start_ends (given ++ g ∷ [])
