use Rattle.twkb_arrays.proofs.WritingLaws.{is_stream, is_written}
use Rattle.twkb_arrays.proofs.samples.each_kind.Goals as goal

pub returns-clause-bytes : goal.returns-clause-bytes
returns-clause-bytes c = is_written

pub returns-clause-stream : goal.returns-clause-stream
returns-clause-stream c = is_stream
