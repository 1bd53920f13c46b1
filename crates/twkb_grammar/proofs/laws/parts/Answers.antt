use Rattle.twkb_grammar.proofs.Running.{ran_part, part_ran}
use Rattle.twkb_grammar.proofs.OneFault.{reached_part, blob_is_part, fault_behind}
use Rattle.twkb_grammar.proofs.laws.parts.Goals as goal

pub returns-clause-items : goal.returns-clause-items
returns-clause-items c = λ limits before. (part_ran limits before, (λ r. ran_part limits before r.0 r.1))

pub returns-clause-reached : goal.returns-clause-reached
returns-clause-reached c = reached_part

pub returns-clause-blob : goal.returns-clause-blob
returns-clause-blob c = blob_is_part

pub returns-clause-behind : goal.returns-clause-behind
returns-clause-behind c = fault_behind
