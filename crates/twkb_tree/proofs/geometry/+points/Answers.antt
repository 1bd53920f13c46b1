use Rattle.twkb_tree.specs.Size.{member_smaller}
use Rattle.std.proofs.lemmas.Grind.{common_steps}
use Rattle.std.proofs.Common.{arith}
use Rattle.twkb_tree.proofs.geometry.+points.Goals as goal

pub Members::points-points-requires : goal.Members::points-points-requires
Members::points-points-requires t c = grind (arith, member_smaller)

pub Members::points-loop-member-preserved : goal.Members::points-loop-member-preserved
Members::points-loop-member-preserved t c = grind (arith, common_steps)

pub Members::points-returns : goal.Members::points-returns
Members::points-returns t c = grind (arith, common_steps)
