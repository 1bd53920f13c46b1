use Rattle.std.proofs.Common.{◌≡◌, ◌≤◌, ◌-◌, length, take}
use Rattle.twkb_blob.specs.Sessions.{session_limits}
use Rattle.example_callers.proofs.ArrivalsLemmas.{Takes}
use Rattle.example_callers.proofs.arrivals.take_piece.Given as goal

-- the start of the piece was taken
abbrev pub invariant-loop-used : goal.invariant-loop-used
invariant-loop-used l =
    record {
      took : Takes l.fn.session (take l.at l.fn.piece) l.count l.session;
      within : l.at ≤ length l.fn.piece;
      few : l.count ≤ l.at;
      limits : session_limits l.session ≡ session_limits l.fn.session;
    }

-- the number of bytes left
abbrev pub decreases-loop-used : goal.decreases-loop-used
decreases-loop-used l = length l.fn.piece - l.at
