use Rattle.twkb_tree.specs.Size.{member_smaller}
use Rattle.std.proofs.lemmas.Grind.{common_steps}
use Rattle.std.proofs.Common.{arith}
use Rattle.twkb_tree.proofs.geometry.+nodes.Goals as goal

pub Members::count_nodes-count_nodes-requires : goal.Members::count_nodes-count_nodes-requires
Members::count_nodes-count_nodes-requires t c = grind (arith, member_smaller)

pub Members::count_nodes-loop-member-preserved : goal.Members::count_nodes-loop-member-preserved
Members::count_nodes-loop-member-preserved t c = grind (arith, common_steps)

pub Members::count_nodes-returns : goal.Members::count_nodes-returns
Members::count_nodes-returns t c = grind (arith, common_steps)
