use Rattle.std.proofs.Common.{◌∙◌, refl, ap}
use Rattle.twkb_tree.specs.Rows.{Row}
use Rattle.twkb_flat.specs.Taking.{component_rows, IsAny}
use Rattle.twkb_flat.proofs.BuildLemmas.{left_all, left_next, left_none, component_heads, read_id, shorter}
use Rattle.twkb_flat.proofs.built_geometry.take_each.Goals as goal

pub loop-alloc-init : goal.loop-alloc-init
loop-alloc-init g c = λ kind ids components rest each.
    left_all IsAny (component_rows g.T.Component.own g.T.Component.below kind c.args.depth) c.args.flat.now
    c.args.start c.args.depth ids components rest each c.new-components.result.items c.new-ids.result.items
    c.new-components.ensures.items c.new-ids.ensures.items

pub take-requires : goal.take-requires
take-requires g c =
    let w = c.requires in
    let heads = component_heads g.T.Component.own g.T.Component.below w.0 c.args.depth in
    let next = left_next _ _ _ _ _ _ _ _ _ _ heads w.4.behind
    (c.loop-alloc.invariant w.0 w.1 w.2 w.3 w.4)
    (c.loop-alloc-test.ensures.0 refl) in
    record { stands = (w.0, c.args.depth, next.id, next.item, next.after, next.stands) }

pub loop-alloc-smaller : goal.loop-alloc-smaller
loop-alloc-smaller g c =
    let w = c.requires in
    let heads = component_heads g.T.Component.own g.T.Component.below w.0 c.args.depth in
    let next = left_next _ _ _ _ _ _ _ _ _ _ heads w.4.behind
    (c.loop-alloc.invariant w.0 w.1 w.2 w.3 w.4)
    (c.loop-alloc-test.ensures.0 refl) in
    let taken = c.in_ok-component.ensures w.0 c.args.depth next.id next.item next.after next.stands in
    shorter _ _ _ _ _ _ _ _ c.in_ok-component.next heads next.stands taken.1

pub loop-alloc-preserved : goal.loop-alloc-preserved
loop-alloc-preserved g c = λ kind ids components rest each.
    let heads = component_heads g.T.Component.own g.T.Component.below kind c.args.depth in
    let next = left_next _ _ _ _ _ _ _ _ _ _ heads each.behind
    (c.loop-alloc.invariant kind ids components rest each)
    (c.loop-alloc-test.ensures.0 refl) in
    let taken = c.in_ok-component.ensures kind c.args.depth next.id next.item next.after next.stands in
    let told = read_id _ _ _ _ _ _ _ _ _ heads next.stands
    (λ r more here. ap (λ (q : Row). q.id) (c.row.ensures.row r more here)) in
    next.step c.in_ok-component.component c.in_ok-component.next c.push.new.self.items c.push_id.new.ids.items
    c.row.result.id taken.0 taken.1 c.in_ok-push.ensures.items c.in_ok-push_id.ensures told

pub returns : goal.returns
returns g c = λ kind ids components rest each.
    let heads = component_heads g.T.Component.own g.T.Component.below kind c.args.depth in
    let done = left_none _ _ _ _ _ _ _ _ _ _ heads each.ids_fit
    (c.loop-alloc.invariant kind ids components rest each)
    (λ at. cc (c.loop-alloc-test.ensures.1 at)) in
    (c.from_vec.ensures ∙ done.items_are, c.found_ids.ensures ∙ done.ids_are, done.behind)
