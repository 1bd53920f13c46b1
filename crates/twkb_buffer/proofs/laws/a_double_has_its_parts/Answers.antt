use Rattle.twkb_buffer.proofs.RoundingLemmas.{double_other, double_value}
use Rattle.twkb_buffer.proofs.laws.a_double_has_its_parts.Goals as goal

pub returns-clause-finite : goal.returns-clause-finite
returns-clause-finite c = λ bits finite. double_value bits finite

pub returns-clause-other : goal.returns-clause-other
returns-clause-other c = λ bits sign m e other. double_other bits sign m e other
