use Rattle.std.proofs.Common.{◌-◌, ◌≤◌, length, Ok, false}
use Rattle.twkb_engine.specs.Standing.{IsAnswer}
use Rattle.twkb_engine.proofs.engine.Engine.feed_items.Given as goal

-- the engine stands for the bytes so far
abbrev pub invariant-loop-used : goal.invariant-loop-used
invariant-loop-used g l = record {
  within : l.used ≤ length l.piece;
  answer : IsAnswer g.S.SpanNotes.holds l.initial.self l.initial.flat l.initial.spans l.piece
      (Ok (l.used, false)) l.self l.flat l.spans;
}

abbrev pub decreases-loop-used : goal.decreases-loop-used
decreases-loop-used g l = length l.piece - l.used
