use Rattle.std.proofs.Common.{◌≡◌, ◌+◌, ◌^◌, ◌<◌, drop}
use Rattle.twkb_tree.specs.Tree.{nodes_all, saturated, trees}
use Rattle.twkb_tree.proofs.geometry.+nodes.Given as goal

abbrev pub invariant-Members::count_nodes-loop-member : goal.invariant-Members::count_nodes-loop-member
invariant-Members::count_nodes-loop-member l =
    (l.total < 2 ^ 64) × (saturated (l.total + nodes_all
    (trees (drop l.member-index l.member-items))) ≡ saturated
    (nodes_all (trees l.member-items)))
