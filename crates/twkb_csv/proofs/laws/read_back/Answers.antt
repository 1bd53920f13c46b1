use Rattle.twkb_csv.proofs.RecordLemmas.{named_back}
use Rattle.twkb_csv.proofs.laws.read_back.Goals as goal

pub returns : goal.returns
returns c = named_back
