-- The rows so far are read, with their points. If no geometry is open, none was, or a root comes next; a call that
-- stops for want of room has passed no blob.
use Rattle.std.proofs.Common.{◌≡◌, ◌≤◌, ◌⊎◌, [], length, take, drop}
use Rattle.twkb_arrays.specs.JudgedRow.{BeginWithRoot}
use Rattle.twkb_arrays.specs.WrittenArrays.{GoesOn, IsWriting}
use Rattle.twkb_arrays.proofs.written_arrays.write_rows.Given as goal

abbrev pub invariant-loop-at : goal.invariant-loop-at
invariant-loop-at l =
    IsWriting l.limits l.style l.fn.output l.fn.ends (take l.at l.rows) (take l.used l.points) l.output l.ends l.writer
    × (l.used ≤ length l.points)
    × (l.writer.open_geometry ≡ [] → (take l.at l.rows ≡ []) ⊎ BeginWithRoot (drop l.at l.rows))
    × GoesOn l.stops l.writer.sent
