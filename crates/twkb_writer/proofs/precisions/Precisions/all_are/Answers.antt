use Rattle.std.proofs.Common.{rules}
use Rattle.twkb_writer.proofs.precisions.Precisions.all_are.Goals as goal

pub returns-in-Several : goal.returns-in-Several
returns-in-Several c = search rules
