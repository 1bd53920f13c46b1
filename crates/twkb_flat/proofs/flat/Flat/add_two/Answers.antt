use Rattle.std.proofs.Common.{[], ◌∷◌, ◌++◌, ◌≡◌, ap, append_assoc, rules, ◌∙◌}
use Rattle.std.specs.Vec.{with_items}
use Rattle.twkb_tree.specs.RowGrowth.{point_added}
use Rattle.twkb_flat.proofs.LastPoint.{StandFor, vec_more, can_count}
use Rattle.twkb_flat.proofs.flat.Flat.add_two.Goals.{After-self, After-count_points}
use Rattle.twkb_flat.proofs.flat.Flat.add_two.Goals as goal

-- before anything is appended
before : (c : After-self) → StandFor c.args.self.now c.self.inside.kept.items c.self.inside.points.items
before c = record { flat = c.self.invariant; view = c.self.view_is; line = c.requires.line }

-- after both points
behind : (c : After-count_points)
    → StandFor (point_added c.args.second (point_added c.args.first c.args.self.now))
    (with_items c.self.inside.kept c.count_points.new.kept).items c.push_reserved-2.new.self.items
behind c =
    let appended : c.push_reserved-2.new.self.items
    ≡ c.self.inside.points.items ++ c.args.first ∷ c.args.second ∷ [] =
    c.push_reserved-2.ensures.items
    ∙ ap (λ ps. ps ++ c.args.second ∷ []) (c.push_reserved.ensures.items
    ∙ ap (λ ps. ps ++ c.args.first ∷ []) c.in_ok-make_room.ensures.same)
    ∙ append_assoc c.self.inside.points.items (c.args.first ∷ []) (c.args.second ∷ []) in
    vec_more (c.args.first ∷ c.args.second ∷ []) _ c.self.inside.kept _ _ _ _
    (record { flat = c.self.invariant; view = c.self.view_is; line = c.requires.line })
    c.requires.room (search rules, (search rules, tt))
    c.deref_mut.ensures.value c.count_points.ensures.placed_rows c.count_points.ensures.links
    appended

pub count_points-requires-clause-room : goal.count_points-requires-clause-room
count_points-requires-clause-room c = can_count 2 _ _ _ _
    (before (goal.at.count_points-requires-clause-room c).After-self) c.requires.room
    c.deref_mut.ensures.value

pub invariant_of-self-2 : goal.invariant_of-self-2
invariant_of-self-2 c = (behind (goal.at.invariant_of-self-2 c).After-count_points).flat

pub returns-clause-added : goal.returns-clause-added
returns-clause-added c = (behind (goal.at.returns-clause-added c).After-count_points).view
