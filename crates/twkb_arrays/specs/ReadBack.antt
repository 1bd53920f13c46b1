-- Arrays that are written, and read back from the bytes; and what is left of them if some are not written.
use Rattle.std.specs.Prelude.{◌≡◌, ◌≤◌, ◌++◌, ◌⊎◌, ℕ, List, [], length, take, drop}
use Rattle.twkb_io.specs.declared.TheConstants.{MAX_BYTES}
use Rattle.twkb_tree.specs.Limits.{Allowance}
use Rattle.twkb_tree.specs.Tree.{Tree}
use Rattle.twkb_grammar.specs.Written.{canonical_stream}
use Rattle.twkb_grammar.specs.declared.style.Style.{Style}
use Rattle.twkb_buffer.specs.declared.point.BufferPoint.{BufferPoint}
use Rattle.twkb_buffer.specs.declared.report.BufferReport.{BufferReport}
use Rattle.twkb_arrays.specs.declared.row.BufferRow.{BufferRow}
use Rattle.twkb_arrays.specs.declared.filled_arrays.BufferCounts.{BufferCounts}
use Rattle.twkb_arrays.specs.FilledArrays.{ReadsArrays}
use Rattle.twkb_arrays.specs.Rows.{array_points, array_rows}
use Rattle.twkb_arrays.specs.WrittenArrays.{AreArrays, WritesArrays}

-- An array of rows and one of points.
pub record Arrays : Type 0 where
  pub rows : List BufferRow
  pub points : List BufferPoint

-- A call with status 0 wrote the arrays that are given as at most 2^62 bytes, and then these were
-- read into arrays that have room for as many rows and points.
pub record IsRoundTrip (l : Allowance) (given old new : Arrays) (counts : BufferCounts) : Type 0 where
  pub style : Style
  pub before : List ℕ
  pub before_ends : List ℕ
  pub after : List ℕ
  pub after_ends : List ℕ
  pub old_ends : List ℕ
  pub new_ends : List ℕ
  pub report : BufferReport
  pub wrote : WritesArrays l style given.rows given.points before before_ends after after_ends report
  pub done : report.status ≡ 0
  pub read : ReadsArrays l (take report.sent after) old.rows old.points old_ends new.rows
      new.points new_ends counts
  pub few : length (take report.sent after) ≤ MAX_BYTES
  pub room_for_rows : length given.rows ≤ length old.rows
  pub room_for_points : length given.points ≤ length old.points
  pub room_for_ends : (old_ends ≡ []) ⊎ (length given.rows ≤ length old_ends)

-- Arrays begin with those that are given, and go on as they were.
pub record BeginAs (given old new : Arrays) : Type 0 where
  pub rows_are : new.rows ≡ given.rows ++ drop (length given.rows) old.rows
  pub points_are : new.points ≡ given.points ++ drop (length given.points) old.points

-- The blobs in an output took exactly the first rows and points of arrays, those that the report of the
-- call counts. If the others are those of more geometries, all are those of both, in this order, and the
-- stream of both is what was sent and then the stream of the others.
pub record RestGoesOn (l : Allowance) (style : Style) (gs : List Tree) (in_rows : List BufferRow)
    (in_points : List BufferPoint) (new : List ℕ) (report : BufferReport) : Type 0 where
  pub rows_are : take report.taken in_rows ≡ array_rows gs
  pub points_are : take report.taken_points in_points ≡ array_points gs
  pub joined : (more : List Tree)
      → AreArrays l more (drop report.taken in_rows) (drop report.taken_points in_points)
      → AreArrays l (gs ++ more) in_rows in_points
  pub stream : (more : List Tree)
      → canonical_stream style (gs ++ more) ≡ take report.sent new ++ canonical_stream style more
