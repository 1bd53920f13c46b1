use Rattle.twkb_body.proofs.InFront.{behind_header}
use Rattle.twkb_body.proofs.whole.whole_point.Goals as goal

pub returns : goal.returns
returns c = behind_header c.args.bytes.now c.in_ok-size.size c.in_ok-size.header c.in_ok-to.steps
    c.origin.result c.in_ok-to.to c.origin.ensures c.in_ok-size.ensures c.in_ok-to.ensures
