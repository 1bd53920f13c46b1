use Rattle.std.proofs.Common.{◌≡◌, ◌+◌, ◌≤◌, ◌++◌, List, ℕ, false, length}
use Rattle.twkb_io.specs.declared.TheConstants.{MAX_BYTES}
use Rattle.twkb_io.specs.Outputs.{Took, is_spent, output_tap, sent_of}
use Rattle.twkb_io.specs.Taps.{flushes_of}
use Rattle.twkb_io.proofs.output.OutputSink.put.Given as goal

-- the writer took a prefix of the bytes, and the rest still fits
abbrev pub invariant-loop-rest : goal.invariant-loop-rest
invariant-loop-rest g l =
    record {
      fresh : is_spent l.self ≡ false;
      flushes : flushes_of (output_tap l.self).now ≡ flushes_of (output_tap l.fn.self).now;
      room : sent_of l.self + length l.rest ≤ MAX_BYTES;
      front : (front : List ℕ) × (l.fn.bytes ≡ front ++ l.rest) × Took g.W.Write.contents l.fn.self front l.self;
    }

abbrev pub decreases-loop-rest : goal.decreases-loop-rest
decreases-loop-rest g l = length l.rest
