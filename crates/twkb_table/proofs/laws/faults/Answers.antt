use Rattle.twkb_table.proofs.FaultLaws.{named_or_fault, fault_none, one_fault}
use Rattle.twkb_table.proofs.laws.faults.Goals as goal

pub returns : goal.returns
returns c = record { decided = named_or_fault; none = fault_none; one = one_fault }
