use Rattle.std.proofs.Common.{arith}
use Rattle.std.proofs.lemmas.Grind.{common_steps}
use Rattle.twkb_convert.proofs.span_texts.put_all.Goals as goal

pub returns : goal.returns
returns g c = grind (arith, common_steps)

pub loop-span-preserved : goal.loop-span-preserved
loop-span-preserved g c = grind (arith, common_steps)
