use Rattle.std.proofs.Common.{rules}
use Rattle.twkb_points.proofs.point.is_coordinate.Goals as goal

pub returns-then-number-ge-LEAST : goal.returns-then-number-ge-LEAST
returns-then-number-ge-LEAST c = search rules
