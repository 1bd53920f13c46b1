use Rattle.twkb_grammar.proofs.Streams.{stream_or_fault}
use Rattle.twkb_grammar.proofs.laws.stream_or_fault.Goals as goal

pub returns : goal.returns
returns c = stream_or_fault
