use Rattle.std.proofs.Common.{◌≡◌, take}
use Rattle.twkb_tree.proofs.geometry.+same.Given as goal

abbrev pub invariant-Members::same-loop-index : goal.invariant-Members::same-loop-index
invariant-Members::same-loop-index l = take l.index l.members ≡ take l.index l.others
