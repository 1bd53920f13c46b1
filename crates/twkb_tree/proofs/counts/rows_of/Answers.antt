use Rattle.std.proofs.Common.{arith}
use Rattle.std.proofs.lemmas.Grind.{common_steps}
use Rattle.twkb_tree.proofs.counts.rows_of.Goals as goal

pub loop-area-preserved : goal.loop-area-preserved
loop-area-preserved c = grind (arith, common_steps)
