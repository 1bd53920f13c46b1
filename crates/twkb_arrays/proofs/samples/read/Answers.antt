use Rattle.twkb_arrays.proofs.WritingLaws.{sample_read}
use Rattle.twkb_arrays.proofs.samples.read.Goals as goal

pub returns : goal.returns
returns c = sample_read
