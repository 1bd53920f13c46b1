use Rattle.twkb_num.proofs.VarintLemmas.{refused_ends}
use Rattle.twkb_num.proofs.laws.refused_units_end.Goals as goal

pub returns : goal.returns
returns g c = refused_ends g.met.G.Groups.laws
