use Rattle.std.proofs.Common.{◌≡◌, take}
use Rattle.twkb_tree.proofs.lists.ElementsElement.same.Given as goal

abbrev pub invariant-loop-index : goal.invariant-loop-index
invariant-loop-index g l = take l.index l.items ≡ take l.index l.others
