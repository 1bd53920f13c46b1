use Rattle.twkb_buffer.proofs.RoundingLemmas.{IsUnit-one}
use Rattle.twkb_buffer.proofs.laws.one_unit.Goals as goal

pub returns : goal.returns
returns c = λ factor divisor number m n a b. IsUnit-one factor divisor number m n a b
