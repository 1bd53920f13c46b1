use Rattle.std.proofs.Common.{[], ◌∷◌, arith, rules}
use Rattle.std.specs.Vec.{with_items}
use Rattle.twkb_tree.specs.RowGrowth.{point_added}
use Rattle.twkb_flat.proofs.LastPoint.{StandFor, vec_more, can_count}
use Rattle.twkb_flat.proofs.flat.Flat.add_point.Goals.{After-count_points}
use Rattle.twkb_flat.proofs.flat.Flat.add_point.Goals as goal

-- after the point
behind : (c : After-count_points) → StandFor (point_added c.args.point c.args.self.now)
    (with_items c.self.inside.kept c.count_points.new.kept).items c.push.new.self.items
behind c = vec_more (c.args.point ∷ []) _ c.self.inside.kept _ _ _ _
    (record { flat = c.self.invariant; view = c.self.view_is; line = c.requires.line })
    (omega (arith, c.requires.room)) (search rules, tt) c.deref_mut.ensures.value
    c.count_points.ensures.placed_rows c.count_points.ensures.links c.in_default.ensures.items

pub count_points-requires-clause-room : goal.count_points-requires-clause-room
count_points-requires-clause-room c = can_count 1 _ _ _ _
    (record { flat = c.self.invariant; view = c.self.view_is; line = c.requires.line })
    (omega (arith, c.requires.room)) c.deref_mut.ensures.value

pub invariant_of-self-2 : goal.invariant_of-self-2
invariant_of-self-2 c = (behind (goal.at.invariant_of-self-2 c).After-count_points).flat

pub returns-clause-added : goal.returns-clause-added
returns-clause-added c = (behind (goal.at.returns-clause-added c).After-count_points).view
