use Rattle.std.proofs.Common.{◌≡◌, ◌+◌, ◌^◌, ◌<◌, drop}
use Rattle.twkb_tree.specs.Tree.{area_nodes, saturated}
use Rattle.twkb_tree.proofs.counts.rows_of.Given as goal

abbrev pub invariant-loop-area : goal.invariant-loop-area
invariant-loop-area l =
    (l.total < 2 ^ 64) × (saturated (l.total + area_nodes (drop l.area-index l.area-items))
    ≡ saturated (area_nodes l.area-items))
