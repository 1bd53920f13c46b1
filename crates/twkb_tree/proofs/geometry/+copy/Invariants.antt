use Rattle.std.proofs.Common.{◌≡◌, ◌≤◌, length, take}
use Rattle.std.specs.Prelude.{vec_len, vec_capacity}
use Rattle.twkb_tree.proofs.geometry.+copy.Given as goal

abbrev pub invariant-Members::copy-loop-member : goal.invariant-Members::copy-loop-member
invariant-Members::copy-loop-member l =
    (l.items.items ≡ take l.member-index l.members) × (vec_len l.items ≡ l.member-index)
    × (length l.members ≤ vec_capacity l.items)
