-- The numbers so far are rounded, and the places after them are unchanged.
use Rattle.std.proofs.Common.{◌-◌, length}
use Rattle.twkb_buffer.specs.RoundedNumbers.{divisor_of, factor_of}
use Rattle.twkb_buffer.proofs.RoundingLemmas.{RoundsUpTo}
use Rattle.twkb_buffer.proofs.rounded_numbers.round_front.Given as goal

abbrev pub decreases-loop-count : goal.decreases-loop-count
decreases-loop-count l = length l.numbers - l.count

abbrev pub invariant-loop-count : goal.invariant-loop-count
invariant-loop-count l =
    RoundsUpTo (factor_of l.scale) (divisor_of l.scale) l.numbers l.initial.units l.units l.count
