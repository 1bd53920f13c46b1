use Rattle.twkb_writer.proofs.PutLemmas.{pushed}
use Rattle.twkb_writer.proofs.gatherer.Gatherer+S+S+Fault.put_steps.Goals as goal

pub returns-clause-put : goal.returns-clause-put
returns-clause-put g c =
    let spelled = rw (
      c.step_to-x.ensures.x,
      c.step_to-x.ensures.y,
      c.step_to-next_x.ensures.x,
      c.step_to-next_x.ensures.y,
      c.step_to-x.ensures.moved,
    ) at c.push_four_varints.ensures in
    pushed _ c.make_room.ensures.put spelled
