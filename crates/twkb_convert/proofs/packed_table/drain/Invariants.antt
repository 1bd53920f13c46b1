use Rattle.std.proofs.Common.{◌≤◌}
use Rattle.twkb_io.specs.Taps.{bytes_given}
use Rattle.twkb_convert.proofs.packed_table.drain.Given as goal

-- each turn gave at least one byte
abbrev pub invariant-loop-turn : goal.invariant-loop-turn
invariant-loop-turn g l = l.turn ≤ bytes_given l.tap
