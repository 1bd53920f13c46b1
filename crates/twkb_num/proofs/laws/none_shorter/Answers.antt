use Rattle.twkb_num.proofs.SpellingLemmas.{shortest_least, shortest_only}
use Rattle.twkb_num.proofs.laws.none_shorter.Goals as goal

pub returns : goal.returns
returns g c = record { least = shortest_least g.met.G.Groups.laws; only = shortest_only g.met.G.Groups.laws }
