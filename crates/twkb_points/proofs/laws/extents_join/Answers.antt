use Rattle.twkb_points.proofs.PointLemmas.{extent-append}
use Rattle.twkb_points.proofs.laws.extents_join.Goals as goal

pub returns : goal.returns
returns c = extent-append
