use Rattle.twkb_convert.proofs.FlushLemmas.{one_shown, some_shown}
use Rattle.twkb_convert.proofs.laws.one_shown_output.Goals as goal

pub returns : goal.returns
returns c = record { some = some_shown; one = one_shown }
