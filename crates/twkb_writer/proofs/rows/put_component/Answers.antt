use Rattle.std.proofs.Common.{rules}
use Rattle.twkb_writer.proofs.rows.put_component.Goals as goal

pub returns-clause-reads : goal.returns-clause-reads
returns-clause-reads g c = search rules
