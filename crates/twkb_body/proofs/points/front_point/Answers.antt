use Rattle.twkb_body.proofs.InFront.{pair_in_front}
use Rattle.twkb_body.proofs.points.front_point.Goals as goal

pub returns : goal.returns
returns c = pair_in_front c.args.from c.in_ok-to.to c.args.bytes.now _ _ _ _ c.in-Some.ensures.front
    c.in-Some-short_number.ensures.front c.in_ok-to.ensures
