use Rattle.std.proofs.Common.{◌∙◌, ◌+◌, refl, ap, sym, arith}
use Rattle.std.proofs.lemmas.List.{length-drop}
use Rattle.twkb_tree.specs.Tree.{collection, trees, precision_of}
use Rattle.twkb_tree.specs.Rows.{Row}
use Rattle.twkb_flat.proofs.BuildLemmas.{left_next, left_none, tree_heads, tree_within, read_id, shorter, read_kind}
use Rattle.twkb_flat.proofs.BuildLemmas.{members_at, ids_below, members_below, is_members}
use Rattle.twkb_flat.proofs.built_geometry.+building.Goals as goal

pub take_geometry-row-precision-requires : goal.take_geometry-row-precision-requires
take_geometry-row-precision-requires t c = tree_within _ _ _ _ _ _ c.requires.4

pub take_members-take_geometry-requires : goal.take_members-take_geometry-requires
take_members-take_geometry-requires t c =
    let w = c.requires in
    let next = left_next _ _ _ _ _ _ _ _ _ _ (tree_heads c.args.depth) w.3.behind
    (c.loop-alloc.invariant.1 w.0 w.1 w.2 w.3) (c.loop-alloc-test.ensures.0 refl) in
    (omega (arith, c.decreases, c.loop-alloc.invariant.0), (c.args.depth, next.id, next.item, next.after, next.stands))

pub take_members-loop-alloc-smaller : goal.take_members-loop-alloc-smaller
take_members-loop-alloc-smaller t c =
    let w = c.requires in
    let next = left_next _ _ _ _ _ _ _ _ _ _ (tree_heads c.args.depth) w.3.behind
    (c.loop-alloc.invariant.1 w.0 w.1 w.2 w.3) (c.loop-alloc-test.ensures.0 refl) in
    let taken = c.in_ok-member.ensures c.args.depth next.id next.item next.after next.stands in
    shorter _ _ _ _ _ _ _ _ c.in_ok-member.next (tree_heads c.args.depth) next.stands taken.1

pub take_members-loop-alloc-preserved : goal.take_members-loop-alloc-preserved
take_members-loop-alloc-preserved t c =
    let w = c.requires in
    let next = left_next _ _ _ _ _ _ _ _ _ _ (tree_heads c.args.depth) w.3.behind
    (c.loop-alloc.invariant.1 w.0 w.1 w.2 w.3) (c.loop-alloc-test.ensures.0 refl) in
    let taken = c.in_ok-member.ensures c.args.depth next.id next.item next.after next.stands in
    let less = shorter _ _ _ _ _ _ _ _ c.in_ok-member.next (tree_heads c.args.depth) next.stands
    taken.1 in (
      omega (arith, less, c.loop-alloc.invariant.0),
      λ ids gs rest each.
          let next = left_next _ _ _ _ _ _ _ _ _ _ (tree_heads c.args.depth) each.behind
          (c.loop-alloc.invariant.1 ids gs rest each) (c.loop-alloc-test.ensures.0 refl) in
          let taken = c.in_ok-member.ensures c.args.depth next.id next.item next.after next.stands in
          let told = read_id _ _ _ _ _ _ _ _ _ (tree_heads c.args.depth) next.stands
          (λ r more here. ap (λ (q : Row). q.id) (c.row.ensures.row r more here)) in
          next.step c.in_ok-member.member c.in_ok-member.next c.push.new.self.items
          c.push_id.new.ids.items c.row.result.id taken.0 taken.1 c.in_ok-push.ensures.items
          c.in_ok-push_id.ensures told,
    )

pub take_members-returns : goal.take_members-returns
take_members-returns t c =
    λ ids gs rest each.
    let done = left_none _ _ _ _ _ _ _ _ _ _ (tree_heads c.args.depth) each.ids_fit
    (c.loop-alloc.invariant.1 ids gs rest each) (λ at. cc (c.loop-alloc-test.ensures.1 at)) in
    (c.from_vec.ensures ∙ done.items_are, c.found_ids.ensures ∙ done.ids_are, done.behind)

pub take_shape-row-row-requires : goal.take_shape-row-row-requires
take_shape-row-row-requires t c = tree_within _ _ _ _ _ _ c.requires.4

pub take_shape-overflow_add-at : goal.take_shape-overflow_add-at
take_shape-overflow_add-at t c =
    let inside = tree_within _ _ _ _ _ _ c.requires.4 in
    omega (arith, inside, c.row-row.ensures.few)

pub take_shape-take_members-requires : goal.take_shape-take_members-requires
take_shape-take_members-requires t c =
    let w = c.requires in
    let inside = tree_within _ _ _ _ _ _ w.4 in (
      omega (
        arith,
        c.decreases,
        inside,
        length-drop c.args.at c.args.flat.now,
        length-drop (c.args.at + 1) c.args.flat.now,
      ),
      (
        ids_below w.2,
        members_below w.2,
        w.3,
        members_at _ _ _ _ _ _ _ w.4 c.row-row.ensures.row c.in-Collection.is,
      ),
    )

pub take_shape-returns-in_ok-members-in-Collection : goal.take_shape-returns-in_ok-members-in-Collection
take_shape-returns-in_ok-members-in-Collection t c =
    λ d id g rest it.
    let kind = sym (read_kind _ _ _ _ _ _ _ it c.row-row.ensures.row) ∙ c.in-Collection.is in
    let taken = c.in_ok-members-in-Collection.ensures (ids_below g) (members_below g) rest
    (members_at _ _ _ _ _ _ _ it c.row-row.ensures.row c.in-Collection.is) in
    ((λ i. collection (precision_of g) (taken.1 i) (trees (taken.0 i))) ∙ is_members id d g kind, taken.2)

pub take_shape-take_simple-requires : goal.take_shape-take_simple-requires
take_shape-take_simple-requires t c =
    let w = c.requires in (
      w.0,
      w.1,
      w.2,
      w.3,
      record {
        stands = w.4;
        no_collection = λ is. c.in_default.not-Collection
            (read_kind _ _ _ _ _ _ _ w.4 c.row-row.ensures.row ∙ is);
      },
    )
