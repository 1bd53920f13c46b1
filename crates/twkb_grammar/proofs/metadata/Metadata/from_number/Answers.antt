use Rattle.twkb_grammar.proofs.Stepping.{bit-lowest_byte}
use Rattle.twkb_grammar.proofs.metadata.Metadata.from_number.Goals as goal

pub returns-clause-bits : goal.returns-clause-bits
returns-clause-bits c = bit-lowest_byte c.args.number
