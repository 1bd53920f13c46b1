use Rattle.std.proofs.Common.{◌≡◌, ◌≤◌, length, take}
use Rattle.std.specs.Prelude.{vec_len, vec_capacity}
use Rattle.twkb_tree.proofs.lists.ElementsElement.copy.Given as goal

abbrev pub invariant-loop-item : goal.invariant-loop-item
invariant-loop-item g l =
    (l.items.items ≡ take l.item-index l.own) × (vec_len l.items ≡ l.item-index) × (length l.own ≤ vec_capacity l.items)
