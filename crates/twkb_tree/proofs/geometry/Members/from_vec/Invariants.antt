use Rattle.std.proofs.Common.{take}
use Rattle.twkb_tree.specs.Tree.{AreTrees, trees}
use Rattle.twkb_tree.specs.Limits.{AreTreesInRange}
use Rattle.twkb_tree.proofs.geometry.Members.from_vec.Given as goal

abbrev pub invariant-loop-member : goal.invariant-loop-member
invariant-loop-member l =
    AreTrees (trees (take l.member-index l.member-items)) × AreTreesInRange (trees (take l.member-index l.member-items))
