use Rattle.twkb_table.proofs.FaultLaws.{some_complete, one_complete, early_none}
use Rattle.twkb_table.proofs.laws.complete.Goals as goal

pub returns : goal.returns
returns c = record { some = some_complete; one = one_complete; early = early_none }
