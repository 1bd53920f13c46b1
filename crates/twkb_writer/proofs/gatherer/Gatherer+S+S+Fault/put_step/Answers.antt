use Rattle.twkb_writer.proofs.PutLemmas.{pushed}
use Rattle.twkb_writer.proofs.gatherer.Gatherer+S+S+Fault.put_step.Goals as goal

pub returns-clause-put : goal.returns-clause-put
returns-clause-put g c =
    let spelled = rw (c.step_to-x.ensures.x, c.step_to-x.ensures.y) at c.push_two_varints.ensures in
    pushed _ c.make_room.ensures.put spelled
