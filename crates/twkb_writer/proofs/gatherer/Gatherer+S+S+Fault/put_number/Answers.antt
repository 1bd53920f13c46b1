use Rattle.twkb_writer.proofs.PutLemmas.{pushed}
use Rattle.twkb_writer.proofs.gatherer.Gatherer+S+S+Fault.put_number.Goals as goal

pub returns : goal.returns
returns g c = pushed _ c.make_room.ensures.put c.push_varint.ensures.value
