use Rattle.twkb_arrays.proofs.RestLaws.{rest_of_stopped, rest_of_writing}
use Rattle.twkb_arrays.proofs.laws.rest_of_arrays.Goals as goal

pub returns-clause-all : goal.returns-clause-all
returns-clause-all c = rest_of_writing

pub returns-clause-stopped : goal.returns-clause-stopped
returns-clause-stopped c = rest_of_stopped
