use Rattle.twkb_arrays.proofs.WritingLaws.{read_back}
use Rattle.twkb_arrays.proofs.laws.read_back.Goals as goal

pub returns : goal.returns
returns c = read_back
