use Rattle.twkb_grammar.proofs.OneFault.{one_first_fault}
use Rattle.twkb_grammar.proofs.Streams.{fault-append, one_stream_fault}
use Rattle.twkb_grammar.proofs.laws.one_fault.Goals as goal

pub returns-clause-blob : goal.returns-clause-blob
returns-clause-blob c = one_first_fault

pub returns-clause-stream : goal.returns-clause-stream
returns-clause-stream c = one_stream_fault

pub returns-clause-joined : goal.returns-clause-joined
returns-clause-joined c = fault-append
