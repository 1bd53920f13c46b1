use Rattle.twkb_column.proofs.OutputLemmas.{front_of}
use Rattle.twkb_column.proofs.laws.pack_front.Goals as goal

pub returns : goal.returns
returns c = front_of
