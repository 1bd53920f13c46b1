use Rattle.twkb_buffer.proofs.RoundingLemmas.{halves_rounded, large_rounded, others_rounded}
use Rattle.twkb_buffer.proofs.samples.doubles.Goals as goal

pub returns : goal.returns
returns c = record { halves = halves_rounded; others = others_rounded; large = large_rounded }
