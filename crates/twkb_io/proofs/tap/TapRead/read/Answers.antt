use Rattle.std.proofs.Common.{rules}
use Rattle.twkb_io.proofs.tap.TapRead.read.Goals as goal

pub returns-clause-failures : goal.returns-clause-failures
returns-clause-failures g c = search rules
