use Rattle.twkb_convert.proofs.FlushLemmas.{one_located_stream, some_located_stream}
use Rattle.twkb_convert.proofs.laws.one_located_stream.Goals as goal

pub returns : goal.returns
returns c = record { some = some_located_stream; one = one_located_stream }
