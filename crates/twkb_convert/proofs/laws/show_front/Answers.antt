use Rattle.twkb_convert.proofs.FlushLemmas.{show_front}
use Rattle.twkb_convert.proofs.laws.show_front.Goals as goal

pub returns : goal.returns
returns c = show_front
