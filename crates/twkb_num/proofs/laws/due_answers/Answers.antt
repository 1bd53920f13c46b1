use Rattle.twkb_num.proofs.VarintLemmas.{due_done, due_more}
use Rattle.twkb_num.proofs.laws.due_answers.Goals as goal

pub returns : goal.returns
returns g c = record { done = due_done g.met.G.Groups.laws; more = due_more g.met.G.Groups.laws }
