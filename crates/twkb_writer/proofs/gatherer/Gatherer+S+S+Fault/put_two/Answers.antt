use Rattle.std.proofs.Common.{◌∷◌, []}
use Rattle.twkb_writer.proofs.PutLemmas.{pushed, pushed_twice}
use Rattle.twkb_writer.proofs.gatherer.Gatherer+S+S+Fault.put_two.Goals as goal

pub returns : goal.returns
returns g c =
    pushed _ c.make_room.ensures.put (pushed_twice _ _ _ (c.args.first ∷ []) (c.args.second ∷ []) c.push.ensures
    c.push-2.ensures)
