use Rattle.twkb_body.proofs.HeaderParts.{outlined_point, point_takes, noted_point}
use Rattle.twkb_body.proofs.laws.points.Goals as goal

pub returns-clause-taken : goal.returns-clause-taken
returns-clause-taken c = outlined_point

pub returns-clause-takes : goal.returns-clause-takes
returns-clause-takes c = point_takes

pub returns-clause-noted : goal.returns-clause-noted
returns-clause-noted c = λ limits told front e gs h f ids lefts rs bytes to.
    noted_point limits front e gs h f ids lefts rs told bytes to
