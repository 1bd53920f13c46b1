use Rattle.std.proofs.Common.{◌++◌, length, ap, ◌∙◌}
use Rattle.std.specs.Vec.{with_items}
use Rattle.twkb_tree.specs.RowGrowth.{points_added}
use Rattle.twkb_flat.proofs.LastPoint.{StandFor, vec_more, can_count}
use Rattle.twkb_flat.proofs.flat.Flat.add_points.Goals.{After-self, After-count_points}
use Rattle.twkb_flat.proofs.flat.Flat.add_points.Goals as goal

-- before anything is appended
before : (c : After-self) → StandFor c.args.self.now c.self.inside.kept.items c.self.inside.points.items
before c = record { flat = c.self.invariant; view = c.self.view_is; line = c.requires.line }

-- after the points
behind : (c : After-count_points) → StandFor (points_added c.args.points.now c.args.self.now)
    (with_items c.self.inside.kept c.count_points.new.kept).items
    c.put_reserved.new.points.items
behind c = vec_more c.args.points.now _ c.self.inside.kept _ _ _ _
    (record { flat = c.self.invariant; view = c.self.view_is; line = c.requires.line })
    c.requires.room c.look.ensures c.deref_mut.ensures.value
    c.count_points.ensures.placed_rows c.count_points.ensures.links
    (c.put_reserved.ensures ∙ ap (λ ps. ps ++ c.args.points.now) c.in_ok-make_room.ensures.same)

pub count_points-requires-clause-room : goal.count_points-requires-clause-room
count_points-requires-clause-room c = can_count (length c.args.points.now) _ _ _ _
    (before (goal.at.count_points-requires-clause-room c).After-self) c.requires.room
    c.deref_mut.ensures.value

pub invariant_of-self-2 : goal.invariant_of-self-2
invariant_of-self-2 c = (behind (goal.at.invariant_of-self-2 c).After-count_points).flat

pub returns-clause-added : goal.returns-clause-added
returns-clause-added c = (behind (goal.at.returns-clause-added c).After-count_points).view
