use Rattle.std.proofs.Common.{rules}
use Rattle.twkb_io.proofs.input.Input.refill.Goals as goal

pub invariant_of-self : goal.invariant_of-self
invariant_of-self g c = search rules

pub invariant_of-self-2 : goal.invariant_of-self-2
invariant_of-self-2 g c = search rules

pub returns-then-self : goal.returns-then-self
returns-then-self g c = search rules

pub returns-in_default : goal.returns-in_default
returns-in_default g c = search rules

pub returns : goal.returns
returns g c = search rules
