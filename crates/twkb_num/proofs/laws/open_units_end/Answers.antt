use Rattle.twkb_num.proofs.VarintLemmas.{open_ends}
use Rattle.twkb_num.proofs.laws.open_units_end.Goals as goal

pub returns : goal.returns
returns g c = open_ends g.met.G.Groups.laws
