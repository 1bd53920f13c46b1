use Rattle.std.proofs.Common.{◌≡◌, ◌-◌, ◌+◌, ◌≤◌, true, length}
use Rattle.twkb_grammar.specs.Noting.{Notes, note_ends}
use Rattle.twkb_grammar.specs.Reading.{is_exact as exact}
use Rattle.twkb_body.specs.Outline.{outline_past_end}
use Rattle.twkb_engine.specs.Collections.{frames_of}
use Rattle.twkb_engine.specs.Fits.{are_shut}
use Rattle.twkb_engine.specs.State.{sums_of}
use Rattle.twkb_engine.specs.Taking.{past_end}
use Rattle.twkb_engine.proofs.engine.Engine.end_geometry.Given as goal

-- what ends with the geometries that ended is what ends with the first one, and so many ends were noted
abbrev pub invariant-loop-spans : goal.invariant-loop-spans
invariant-loop-spans g l = record {
  limits : l.self.limits ≡ l.initial.self.limits;
  start : l.self.start ≡ l.initial.self.start;
  held : l.self.held ≡ l.initial.self.held;
  sums : sums_of l.self ≡ sums_of l.initial.self;
  head : l.self.head ≡ l.initial.self.head;
  shut : are_shut l.self.points_left l.self.rings_left l.self.members_left ≡ true;
  few : length l.self.collections ≤ length l.initial.self.collections;
  way : outline_past_end (exact l.head.size (l.self.bytes - l.head.from)) l.self.bytes
      (frames_of l.self.collections) ≡ past_end l.initial.self;
  noted : (w : Notes) → g.S.SpanNotes.holds l.initial.spans w
      → g.S.SpanNotes.holds l.spans
      (note_ends (length l.initial.self.collections - length l.self.collections)
      (l.initial.self.start + l.initial.self.bytes) l.initial.self.points w);
}

abbrev pub decreases-loop-spans : goal.decreases-loop-spans
decreases-loop-spans g l = length l.self.collections
