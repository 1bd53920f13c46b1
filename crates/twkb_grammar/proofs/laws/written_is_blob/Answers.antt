use Rattle.twkb_grammar.proofs.WrittenBlobs.{written_blob, written_short}
use Rattle.twkb_grammar.proofs.Streams.{written_stream}
use Rattle.twkb_grammar.proofs.laws.written_is_blob.Goals as goal

pub returns-clause-blob : goal.returns-clause-blob
returns-clause-blob c = written_blob

pub returns-clause-stream : goal.returns-clause-stream
returns-clause-stream c = written_stream

pub returns-clause-short : goal.returns-clause-short
returns-clause-short c = written_short
