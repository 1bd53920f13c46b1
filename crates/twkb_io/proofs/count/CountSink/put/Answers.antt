use Rattle.std.proofs.Common.{rules}
use Rattle.twkb_io.proofs.count.CountSink.put.Goals as goal

pub invariant_of-self : goal.invariant_of-self
invariant_of-self c = search rules
