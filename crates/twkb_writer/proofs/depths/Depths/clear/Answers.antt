use Rattle.twkb_writer.proofs.MeasuringParts.{blank_last}
use Rattle.twkb_writer.proofs.depths.Depths.clear.Goals as goal

pub loop-self-preserved : goal.loop-self-preserved
loop-self-preserved c = blank_last _ _ _ c.blank.ensures c.loop-self-test.true c.loop-self.invariant
