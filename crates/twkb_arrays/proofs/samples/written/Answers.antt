use Rattle.twkb_arrays.proofs.WritingLaws.{sample_written}
use Rattle.twkb_arrays.proofs.samples.written.Goals as goal

pub returns : goal.returns
returns c = sample_written
