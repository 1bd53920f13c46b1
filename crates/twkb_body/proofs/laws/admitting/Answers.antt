use Rattle.twkb_body.proofs.PointRuns.{item_admitted, point_admitted}
use Rattle.twkb_body.proofs.laws.admitting.Goals as goal

pub returns-clause-item : goal.returns-clause-item
returns-clause-item c = item_admitted

pub returns-clause-point : goal.returns-clause-point
returns-clause-point c = λ limits allowed. point_admitted limits allowed
