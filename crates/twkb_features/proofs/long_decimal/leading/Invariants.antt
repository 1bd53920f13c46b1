use Rattle.std.proofs.Common.{◌≡◌, ◌+◌, ◌^◌, ◌++◌, min, take}
use Rattle.std.specs.Str.Parse.{digits_value}
use Rattle.twkb_features.proofs.long_decimal.leading.Given as goal

abbrev pub invariant-loop-at : goal.invariant-loop-at
invariant-loop-at l = l.size ≡ min (digits_value 10 (take l.at (l.whole ++ l.fraction))) (2 ^ 62 + 1)
