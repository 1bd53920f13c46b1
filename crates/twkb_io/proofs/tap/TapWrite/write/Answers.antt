use Rattle.std.proofs.Common.{rules}
use Rattle.twkb_io.proofs.tap.TapWrite.write.Goals as goal

pub returns-in-Ok-clause-failures : goal.returns-in-Ok-clause-failures
returns-in-Ok-clause-failures g c = search rules
