use Rattle.twkb_points.proofs.PointLemmas.{differences_is}
use Rattle.twkb_points.proofs.laws.differences_by_place.Goals as goal

pub returns : goal.returns
returns c = differences_is
