use Rattle.twkb_arrays.proofs.ReadingLaws.{all_read}
use Rattle.twkb_arrays.proofs.laws.one_answer.Goals as goal

pub returns : goal.returns
returns c = all_read
