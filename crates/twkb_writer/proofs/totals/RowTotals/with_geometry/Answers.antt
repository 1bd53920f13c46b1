use Rattle.std.proofs.Common.{rules}
use Rattle.twkb_writer.proofs.totals.RowTotals.with_geometry.Goals as goal

pub returns-clause-value : goal.returns-clause-value
returns-clause-value c = search rules
