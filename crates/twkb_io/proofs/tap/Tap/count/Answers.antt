use Rattle.std.proofs.Common.{rules}
use Rattle.twkb_io.proofs.tap.Tap.count.Goals as goal

pub returns-then-has_failed-clause-failures : goal.returns-then-has_failed-clause-failures
returns-then-has_failed-clause-failures g c = search rules

pub returns-else-has_failed-clause-calls : goal.returns-else-has_failed-clause-calls
returns-else-has_failed-clause-calls g c = search rules
