-- The moderate doubles so far are rounded, after all that were before.
use Rattle.std.proofs.Common.{ℤ, List}
use Rattle.twkb_buffer.specs.RoundedNumbers.{RoundsBefore}
use Rattle.twkb_buffer.proofs.rounded_numbers.round_moderate.Given as goal

abbrev pub invariant-loop-at : goal.invariant-loop-at
invariant-loop-at l =
    (old : List ℤ) → RoundsBefore l.multiplier.factor 1 l.numbers old l.initial.units l.start
    → RoundsBefore l.multiplier.factor 1 l.numbers old l.units l.at
