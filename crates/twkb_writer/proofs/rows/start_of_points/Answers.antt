use Rattle.std.proofs.Common.{rules}
use Rattle.twkb_writer.proofs.rows.start_of_points.Goals as goal

pub returns-in-Some-clause-at : goal.returns-in-Some-clause-at
returns-in-Some-clause-at c = search rules

pub returns-in-None-clause-at : goal.returns-in-None-clause-at
returns-in-None-clause-at c = search rules
