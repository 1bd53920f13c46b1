use Rattle.twkb_points.proofs.PointLemmas.{extent_is}
use Rattle.twkb_points.proofs.laws.extent_by_bounds.Goals as goal

pub returns : goal.returns
returns c = extent_is
