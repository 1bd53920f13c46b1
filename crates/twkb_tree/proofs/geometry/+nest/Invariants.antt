use Rattle.std.proofs.Common.{◌≡◌, ◌^◌, ◌<◌, max, drop}
use Rattle.twkb_tree.specs.Tree.{nest_all, saturated, trees}
use Rattle.twkb_tree.proofs.geometry.+nest.Given as goal

abbrev pub invariant-Members::nest-loop-member : goal.invariant-Members::nest-loop-member
invariant-Members::nest-loop-member l =
    (l.deepest < 2 ^ 64) × (saturated (max l.deepest
    (nest_all (trees (drop l.member-index l.member-items)))) ≡ saturated
    (nest_all (trees l.member-items)))
