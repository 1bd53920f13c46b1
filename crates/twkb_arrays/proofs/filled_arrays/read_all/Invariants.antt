-- The session stands after the bytes used, and their geometries were taken or counted: if the reading stops for
-- one without room, none was counted.
use Rattle.std.proofs.Common.{◌≡◌, ◌-◌, ◌≤◌, length, take, true}
use Rattle.twkb_blob.specs.Sessions.{session_limits}
use Rattle.twkb_arrays.specs.FilledArrays.{IsReading}
use Rattle.twkb_arrays.proofs.filled_arrays.read_all.Given as goal

abbrev pub invariant-loop-used : goal.invariant-loop-used
invariant-loop-used l =
    IsReading (session_limits l.fn.session) l.fn.row_array l.fn.point_array l.fn.ends (take l.used l.blobs)
    l.row_array l.point_array l.ends l.session l.taken
    × (l.used ≤ length l.blobs) × (session_limits l.session ≡ session_limits l.fn.session)
    × (l.stops ≡ true → l.taken.passed ≡ 0)

abbrev pub decreases-loop-used : goal.decreases-loop-used
decreases-loop-used l = length l.blobs - l.used
