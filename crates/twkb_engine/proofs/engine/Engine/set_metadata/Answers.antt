use Rattle.std.proofs.Common.{[], arith}
use Rattle.twkb_engine.proofs.Items.{frames_length}
use Rattle.twkb_engine.proofs.engine.Engine.set_metadata.Goals as goal

pub returns-clause-placed : goal.returns-clause-placed
returns-clause-placed g c =
    record {
      depth_is = omega (arith, c.len.ensures, frames_length [] c.args.self.now.collections);
      id_is = c.id-self.ensures;
    }
