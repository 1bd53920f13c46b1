use Rattle.twkb_buffer.proofs.RoundingLemmas.{IsSize-some, IsUnit-some}
use Rattle.twkb_buffer.proofs.laws.some_unit.Goals as goal

pub returns-clause-size : goal.returns-clause-size
returns-clause-size c = λ precision number is finite. IsSize-some precision number is finite

pub returns-clause-unit : goal.returns-clause-unit
returns-clause-unit c = λ precision number is finite small. IsUnit-some precision number is finite small
