use Rattle.std.proofs.Common.{rules}
use Rattle.twkb_tree.proofs.limits.Limits.try_new.Goals as goal

pub invariant_of-result : goal.invariant_of-result
invariant_of-result c = search rules

pub returns-clause-accepted : goal.returns-clause-accepted
returns-clause-accepted c = search rules
