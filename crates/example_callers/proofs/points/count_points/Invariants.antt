use Rattle.std.proofs.Common.{◌-◌}
use Rattle.twkb_io.specs.declared.TheConstants.{MAX_BYTES}
use Rattle.twkb_io.specs.Taps.{device_of}
use Rattle.twkb_io.specs.Inputs.{given}
use Rattle.twkb_tree.specs.Limits.{standard_limits}
use Rattle.twkb_blob.specs.Readers.{reader_input}
use Rattle.example_callers.proofs.PointsLemmas.{GavePoints}
use Rattle.example_callers.proofs.points.count_points.Given as goal

-- the points of the blobs so far were counted
abbrev pub invariant-loop-geometry : goal.invariant-loop-geometry
invariant-loop-geometry g l = GavePoints standard_limits (g.R.Read.remaining (device_of l.fn.device)) l.blobs l.count

-- the number of bytes that may still be given out
abbrev pub decreases-loop-geometry : goal.decreases-loop-geometry
decreases-loop-geometry g l = MAX_BYTES - given (reader_input l.blobs)
