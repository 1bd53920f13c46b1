use Rattle.twkb_table.proofs.FaultLaws.{some_verdict}
use Rattle.twkb_table.proofs.Verdicts.{one_verdict}
use Rattle.twkb_table.proofs.laws.one_verdict.Goals as goal

pub returns : goal.returns
returns c = record { some = some_verdict; one = one_verdict }
