use Rattle.twkb_points.proofs.PointLemmas.{IsExtentOf-joined}
use Rattle.twkb_points.proofs.laws.spans_join.Goals as goal

pub returns : goal.returns
returns c = IsExtentOf-joined
