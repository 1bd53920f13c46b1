use Rattle.twkb_grammar.proofs.Refusing.{refusal_is_fault}
use Rattle.twkb_grammar.proofs.Running.{ran_fault}
use Rattle.twkb_grammar.proofs.laws.refusals.Goals as goal

pub returns-clause-fault : goal.returns-clause-fault
returns-clause-fault c = λ limits before st runs rest role reason.
    refusal_is_fault limits before rest st role reason runs

pub returns-clause-first : goal.returns-clause-first
returns-clause-first c = λ limits before st ran rest role reason. ran_fault limits before rest st role reason ran
