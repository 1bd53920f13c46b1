use Rattle.std.proofs.Common.{rules}
use Rattle.twkb_io.proofs.bytes.BytesSink.put.Goals as goal

pub returns-clause-unchanged : goal.returns-clause-unchanged
returns-clause-unchanged c = search rules
