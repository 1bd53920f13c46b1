-- The members so far were taken, and the others are at the place; and the measures of the
-- recursion.
use Rattle.std.proofs.Common.{◌+◌, ◌*◌, ◌≤◌, List, length, drop}
use Rattle.twkb_tree.specs.Tree.{Ids, Tree, IsTree}
use Rattle.twkb_tree.specs.Rows.{Row, rows_with}
use Rattle.twkb_flat.specs.Taking.{EachAt}
use Rattle.twkb_flat.proofs.BuildLemmas.{Left}
use Rattle.twkb_flat.proofs.built_geometry.+building.Given as goal

abbrev pub decreases-take_geometry : goal.decreases-take_geometry
decreases-take_geometry l = 3 * length (drop l.at l.flat.now) + 1

abbrev pub decreases-take_shape : goal.decreases-take_shape
decreases-take_shape l = 3 * length (drop l.at l.flat.now)

abbrev pub decreases-take_members : goal.decreases-take_members
decreases-take_members l = 3 * length (drop l.start l.flat.now) + 2

abbrev pub invariant-take_members-loop-alloc : goal.invariant-take_members-loop-alloc
invariant-take_members-loop-alloc l =
    (length (drop l.at l.flat) ≤ length (drop l.start l.flat))
    × ((ids : Ids) (gs : List Tree) (rest : List Row)
    → EachAt IsTree (λ id g. rows_with id l.depth g) l.flat l.start l.depth ids gs rest
    → Left IsTree (λ id g. rows_with id l.depth g) l.flat ids gs rest l.at l.members.items
    l.ids.items)

abbrev pub decreases-take_members-loop-alloc : goal.decreases-take_members-loop-alloc
decreases-take_members-loop-alloc l = length (drop l.at l.flat)
