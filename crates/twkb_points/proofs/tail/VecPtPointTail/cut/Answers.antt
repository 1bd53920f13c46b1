use Rattle.std.proofs.Common.{rules}
use Rattle.twkb_points.proofs.tail.VecPtPointTail.cut.Goals as goal

pub returns : goal.returns
returns c = search rules
