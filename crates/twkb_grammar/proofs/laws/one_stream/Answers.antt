use Rattle.twkb_grammar.proofs.Streams.{one_stream, behind_stream, stream-append}
use Rattle.twkb_grammar.proofs.laws.one_stream.Goals as goal

pub returns-clause-one_reading : goal.returns-clause-one_reading
returns-clause-one_reading c = one_stream

pub returns-clause-one_cut : goal.returns-clause-one_cut
returns-clause-one_cut c = behind_stream

pub returns-clause-joined : goal.returns-clause-joined
returns-clause-joined c = stream-append
