use Rattle.twkb_arrays.proofs.WritingLaws.{written_canonical}
use Rattle.twkb_arrays.proofs.laws.written_again.Goals as goal

pub returns : goal.returns
returns c = written_canonical
