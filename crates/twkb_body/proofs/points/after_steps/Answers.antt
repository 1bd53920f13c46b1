use Rattle.std.proofs.lemmas.Int.{to_z-of_z}
use Rattle.twkb_body.proofs.InFront.{step_if}
use Rattle.twkb_body.proofs.points.after_steps.Goals as goal

pub returns : goal.returns
returns c =
    let range = simp (to_z-of_z, c.ranges.dx, c.ranges.dy) at c.moved_near.ensures.range in
    let value = simp (to_z-of_z, c.ranges.dx, c.ranges.dy) at c.moved_near.ensures.value in
    step_if c.args.from c.args.dx c.args.dy c.moved_near.result range value
