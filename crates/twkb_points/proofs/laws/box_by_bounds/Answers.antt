use Rattle.twkb_points.proofs.PointLemmas.{tight_is}
use Rattle.twkb_points.proofs.laws.box_by_bounds.Goals as goal

pub returns : goal.returns
returns c = tight_is
