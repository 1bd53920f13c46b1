-- Members are smaller than their geometry.
use Rattle.std.specs.Prelude.{ℤ, ◌*◌, ◌≤◌}
use Rattle.std.proofs.Common.{arith}
use Rattle.twkb_tree.specs.declared.geometry.Shape.{Shape}
use Rattle.twkb_tree.specs.declared.geometry.Shape.TheVariants.{Point}
use Rattle.twkb_tree.specs.declared.geometry.Geometry.TheDeep.{deep-Shape}
use Rattle.twkb_tree.specs.Tree.{nodes}
use Rattle.twkb_tree.specs.Shape.{tree_of}

-- the parts of a shape are no larger than its tree
pub deep_le-nodes : (p : ℤ) (s : Shape) → deep-Shape s ≤ 2 * nodes (tree_of p s)
deep_le-nodes p (Point o) = omega arith
deep_le-nodes p _ = omega arith
