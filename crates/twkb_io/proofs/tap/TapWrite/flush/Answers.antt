use Rattle.std.proofs.Common.{rules}
use Rattle.twkb_io.proofs.tap.TapWrite.flush.Goals as goal

pub returns-clause-unflushed : goal.returns-clause-unflushed
returns-clause-unflushed g c = search rules
