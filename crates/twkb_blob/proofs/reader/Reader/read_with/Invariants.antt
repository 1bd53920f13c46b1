use Rattle.std.proofs.Common.{◌≡◌, ◌+◌, ◌-◌}
use Rattle.twkb_io.specs.declared.TheConstants.{MAX_BYTES}
use Rattle.twkb_io.specs.Inputs.{given}
use Rattle.twkb_engine.specs.Standing.{IsAlive, count_of}
use Rattle.twkb_blob.specs.Faults.{Onto}
use Rattle.twkb_blob.proofs.reader.Reader.read_with.Given as goal

-- what is said of a blob that is read from here on, is said from the start on
abbrev pub invariant-loop-fault : goal.invariant-loop-fault
invariant-loop-fault g l = record {
  from : Onto g.S.SpanNotes.holds l.initial.engine l.initial.flat l.initial.spans l.initial.self.input
      l.engine l.flat l.spans l.self.input;
  place : l.engine.start + count_of l.engine ≡ given l.self.input;
  alive : IsAlive l.flat l.engine;
  limits : l.self.limits ≡ l.initial.self.limits;
  state : l.self.state ≡ l.initial.self.state;
}

abbrev pub decreases-loop-fault : goal.decreases-loop-fault
decreases-loop-fault g l = MAX_BYTES - given l.self.input
