use Rattle.std.proofs.Common.{◌-◌, length}
use Rattle.twkb_features.specs.Digits.{IsRead}
use Rattle.twkb_features.proofs.digits.read_digits.Given as goal

abbrev pub invariant-loop-at : goal.invariant-loop-at
invariant-loop-at l = IsRead l.text l.from l.so_far l.at l.value

abbrev pub decreases-loop-at : goal.decreases-loop-at
decreases-loop-at l = length l.text - l.at
