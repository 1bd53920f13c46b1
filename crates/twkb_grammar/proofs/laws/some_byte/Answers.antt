use Rattle.twkb_grammar.proofs.Streams.{blob_long}
use Rattle.twkb_grammar.proofs.laws.some_byte.Goals as goal

pub returns : goal.returns
returns c = blob_long
