use Rattle.twkb_num.proofs.SpelledLemmas.{spelled_varints}
use Rattle.twkb_num.proofs.four_out.as_varints.Goals as goal

pub returns : goal.returns
returns c = spelled_varints _ c.spelled.ensures
