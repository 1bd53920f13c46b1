use Rattle.std.proofs.Common.{◌≡◌, drop}
use Rattle.twkb_points.specs.Extent.{extent, joined_options}
use Rattle.twkb_tree.specs.Tree.{flat_all, trees}
use Rattle.twkb_tree.proofs.geometry.+bounds.Given as goal

abbrev pub invariant-Members::bounds-loop-member : goal.invariant-Members::bounds-loop-member
invariant-Members::bounds-loop-member l =
    joined_options (l.bounds) (extent (flat_all (trees (drop l.member-index l.member-items))))
    ≡ extent (flat_all (trees l.member-items))
