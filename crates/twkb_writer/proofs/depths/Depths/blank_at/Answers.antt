use Rattle.std.proofs.Common.{arith}
use Rattle.twkb_writer.proofs.MeasuringParts.{blank_there}
use Rattle.twkb_writer.proofs.depths.Depths.blank_at.Goals as goal

pub returns-else-self-depth : goal.returns-else-self-depth
returns-else-self-depth c = blank_there c.self.inside.used _ _ c.args.depth c.self.invariant
    c.self.view_is (omega (arith, c.if-self-depth.false)) c.requires
