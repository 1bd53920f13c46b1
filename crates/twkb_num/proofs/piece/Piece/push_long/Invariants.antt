-- The bytes so far and those of the rest spell the number.
use Rattle.std.proofs.Common.{◌≡◌, ◌++◌}
use Rattle.twkb_num.specs.Varint.{varint_of}
use Rattle.twkb_num.proofs.piece.Piece.push_long.Given as goal

abbrev pub invariant-loop-rest : goal.invariant-loop-rest
invariant-loop-rest g l = l.self ++ varint_of l.rest ≡ l.initial.self ++ varint_of l.number

abbrev pub decreases-loop-rest : goal.decreases-loop-rest
decreases-loop-rest g l = l.rest
