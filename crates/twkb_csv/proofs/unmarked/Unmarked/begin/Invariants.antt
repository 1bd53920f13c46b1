use Rattle.std.proofs.Common.{◌≡◌, ◌-◌, false}
use Rattle.std.specs.Io.KnownBytes.{Keeps}
use Rattle.twkb_csv.specs.Marks.{marked_of, unmarked_of}
use Rattle.twkb_csv.proofs.unmarked.Unmarked.begin.Given as goal

-- the bytes that are left are the same
abbrev pub invariant-loop-self : goal.invariant-loop-self
invariant-loop-self g l = record {
  fresh : l.self.begun ≡ false;
  keeps : Keeps (unmarked_of (g.R.Read.remaining (marked_of l.fn.self)) l.fn.self)
      (unmarked_of (g.R.Read.remaining (marked_of l.self)) l.self);
}

abbrev pub decreases-loop-self : goal.decreases-loop-self
decreases-loop-self g l = 3 - l.self.filled
