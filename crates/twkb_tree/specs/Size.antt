-- A size of geometries that gets smaller with each step of a recursion.
use Rattle.std.specs.Prelude.{◌≡◌, ℕ, zero, suc, ◌+◌, ◌*◌, ◌<◌, ◌≤◌, List, [], ◌∷◌, length, get_or}
use Rattle.std.proofs.Common.{arith}
use denote.Param.Weighed.{most}
use Rattle.twkb_tree.specs.Tree.{Tree, nodes, nodes_all, trees}

-- the size of a geometry
abbrev pub size_of : Tree → ℕ
size_of g = 2 * nodes g

-- the total size of some members
abbrev pub size_of_members : List Tree → ℕ
size_of_members gs = 2 * nodes_all (trees gs) + 1

-- no member is larger than all members together
pub most_le-size : (gs : List Tree) → most (λ g. size_of g + 1) gs ≤ size_of_members gs
most_le-size [] = omega arith
most_le-size (g ∷ gs) = omega (arith, most_le-size gs)

-- a member is smaller than all members together
pub member_smaller : (gs : List Tree) (i : ℕ) (g : Tree) → i < length gs → g ≡ get_or gs i g
    → size_of g < size_of_members gs
member_smaller [] i g h e = omega arith
member_smaller (u ∷ us) zero g h e = rw e (omega arith)
member_smaller (u ∷ us) (suc i) g h e = omega (arith, member_smaller us i g (omega arith) e)
