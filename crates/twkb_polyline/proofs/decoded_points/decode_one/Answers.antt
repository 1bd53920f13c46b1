use Rattle.std.proofs.Common.{arith}
use Rattle.twkb_polyline.proofs.TextLemmas.{one_point}
use Rattle.twkb_polyline.proofs.decoded_points.decode_one.Goals as goal

pub returns-in-Some-clause-point : goal.returns-in-Some-clause-point
returns-in-Some-clause-point c = one_point c.in-Some.ensures.read
    c.in-Some.ensures.in_range (omega arith)
