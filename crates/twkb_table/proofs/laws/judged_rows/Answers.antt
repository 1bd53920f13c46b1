use Rattle.twkb_table.proofs.Verdicts.{judged_rows}
use Rattle.twkb_table.proofs.laws.judged_rows.Goals as goal

pub returns : goal.returns
returns c = judged_rows
