use Rattle.std.proofs.Common.{◌≡◌, ◌+◌, ◌^◌, ◌<◌, length, drop}
use Rattle.twkb_tree.specs.Tree.{flat_all, saturated, trees}
use Rattle.twkb_tree.proofs.geometry.+points.Given as goal

abbrev pub invariant-Members::points-loop-member : goal.invariant-Members::points-loop-member
invariant-Members::points-loop-member l =
    (l.total < 2 ^ 64) × (saturated (l.total + length
    (flat_all (trees (drop l.member-index l.member-items)))) ≡ saturated
    (length (flat_all (trees l.member-items))))
