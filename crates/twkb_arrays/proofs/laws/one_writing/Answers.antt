use Rattle.twkb_arrays.proofs.WritingLaws.{all_written_as}
use Rattle.twkb_arrays.proofs.laws.one_writing.Goals as goal

pub returns : goal.returns
returns c = all_written_as
