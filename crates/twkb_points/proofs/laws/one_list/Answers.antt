use Rattle.twkb_points.proofs.PointLemmas.{differences_one}
use Rattle.twkb_points.proofs.laws.one_list.Goals as goal

pub returns : goal.returns
returns c = differences_one
