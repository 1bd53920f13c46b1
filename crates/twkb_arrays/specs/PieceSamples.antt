-- A stream of two points that is read in pieces by two calls, and as a whole by one, for the samples.
use Rattle.std.specs.Prelude.{ℕ, ◌*◌, List, [], ◌++◌, drop, pos, replicate, take}
use Rattle.twkb_buffer.specs.declared.point.BufferPoint.{BufferPoint}
use Rattle.twkb_arrays.specs.Pieces.{Call}
use Rattle.twkb_arrays.specs.Samples.{each_kind_points, each_kind_rows, one_point_blob}
use Rattle.twkb_arrays.specs.declared.row.BufferRow.{BufferRow}

-- The blob of the point, twice: ten bytes.
abbrev pub two_points : List ℕ
two_points = one_point_blob ++ one_point_blob

-- The point's row.
abbrev point_row : BufferRow
point_row = record { id = pos 0; points = 1; depth = 0; kind = 1; has_id = 0; precision = pos 0 }

-- The point.
abbrev point_place : BufferPoint
point_place = record { x = pos 2; y = pos 1 }

-- A call with this window that filled its arrays with so many points, and reports this.
abbrev full_call : (window : List ℕ) → (points status reason place : ℕ) → Call
full_call window points status reason place = record {
  window = window;
  old_rows = take points (drop 1 each_kind_rows);
  old_points = take points (drop 1 each_kind_points);
  old_ends = [];
  new_rows = replicate points point_row;
  new_points = replicate points point_place;
  new_ends = [];
  counts = record {
    status = status;
    reason = reason;
    place = place;
    done = points;
    rows = points;
    points = points;
    needed_rows = points;
    needed_points = points;
    taken = 5 * points;
    reserved_1 = 0;
    reserved_2 = 0;
  };
}

-- The window of the first call ends before the fourth byte of the second blob, at the offset 8.
abbrev pub first_call : Call
first_call = full_call (take 8 two_points) 1 1 41 8

-- The window of the second call is the second blob.
abbrev pub second_call : Call
second_call = full_call (drop 5 two_points) 1 0 0 0

-- The window of one call is all bytes.
abbrev pub whole_call : Call
whole_call = full_call two_points 2 0 0 0
