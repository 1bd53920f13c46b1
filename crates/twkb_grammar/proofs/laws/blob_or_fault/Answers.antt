use Rattle.twkb_grammar.proofs.OneFault.{no_fault}
use Rattle.twkb_grammar.proofs.Streams.{no_stream}
use Rattle.twkb_grammar.proofs.laws.blob_or_fault.Goals as goal

pub returns-clause-no_blob : goal.returns-clause-no_blob
returns-clause-no_blob c = no_fault

pub returns-clause-no_stream : goal.returns-clause-no_stream
returns-clause-no_stream c = no_stream
