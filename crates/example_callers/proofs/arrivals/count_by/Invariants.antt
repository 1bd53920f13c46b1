use Rattle.std.proofs.Common.{◌≡◌, ◌≤◌, ◌-◌}
use Rattle.twkb_io.specs.declared.TheConstants.{MAX_BYTES}
use Rattle.twkb_tree.specs.Limits.{standard_limits}
use Rattle.twkb_blob.specs.Sessions.{session_limits}
use Rattle.example_callers.proofs.ArrivalsLemmas.{TookBytes}
use Rattle.example_callers.proofs.arrivals.count_by.Given as goal

-- the bytes so far were taken
abbrev pub invariant-loop-count : goal.invariant-loop-count
invariant-loop-count g l =
    record {
      took : TookBytes (g.R.Read.remaining l.fn.socket) (g.R.Read.remaining l.socket)
          l.arrived.bytes l.arrived.geometries l.session;
      few : l.arrived.geometries ≤ l.arrived.bytes;
      limits : session_limits l.session ≡ standard_limits;
    }

-- the number of bytes that a session may still take
abbrev pub decreases-loop-count : goal.decreases-loop-count
decreases-loop-count g l = MAX_BYTES - l.arrived.bytes
