use Rattle.twkb_grammar.proofs.OneFault.{made_exactly, refused_exactly, answered}
use Rattle.twkb_grammar.proofs.laws.plain_reader.Goals as goal

pub returns-clause-made : goal.returns-clause-made
returns-clause-made c = made_exactly

pub returns-clause-refused : goal.returns-clause-refused
returns-clause-refused c = refused_exactly

pub returns-clause-answers : goal.returns-clause-answers
returns-clause-answers c = answered
