use Rattle.twkb_num.proofs.VarintLemmas.{answer_one}
use Rattle.twkb_num.proofs.laws.one_answer.Goals as goal

pub returns : goal.returns
returns g c = answer_one g.met.G.Groups.laws
