use Rattle.twkb_num.proofs.VarintLemmas.{too_long_is}
use Rattle.twkb_num.proofs.laws.long_varints.Goals as goal

pub returns : goal.returns
returns c = too_long_is
