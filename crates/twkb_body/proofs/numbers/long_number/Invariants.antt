use Rattle.std.proofs.Common.{◌≡◌, take}
use Rattle.twkb_body.proofs.numbers.long_number.Given as goal

-- the bytes so far are held
abbrev pub invariant-loop-index : goal.invariant-loop-index
invariant-loop-index l = l.partial ≡ take l.index l.bytes
