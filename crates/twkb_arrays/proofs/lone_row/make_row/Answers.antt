use Rattle.twkb_arrays.proofs.TakingLemmas.{point_made, precision_passed}
use Rattle.twkb_arrays.proofs.lone_row.make_row.Goals as goal

pub returns : goal.returns
returns c = point_made c.args.limits c.args.style c.args.row.now c.args.ahead.now c.in-Some.point _ _
    c.in-Some.ensures (precision_passed c.args.row.now.precision c.in-Some.ensures.alone.has_precision)
    c.in_ok-make_point.ensures
