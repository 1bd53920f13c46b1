use Rattle.twkb_points.proofs.PointLemmas.{points_of-differences, differences-points_of}
use Rattle.twkb_points.proofs.laws.there_and_back.Goals as goal

pub returns-clause-points : goal.returns-clause-points
returns-clause-points c = points_of-differences

pub returns-clause-differences : goal.returns-clause-differences
returns-clause-differences c = differences-points_of
