use Rattle.std.proofs.Common.{◌≡◌, ◌∙◌, ◌++◌, ap, arith, rules, subst}
use Rattle.std.specs.Prelude.{OnOk}
use Rattle.twkb_tree.specs.Tree.{trees}
use Rattle.twkb_tree.specs.Rows.{rows_with, rows_under, member_rows}
use Rattle.twkb_tree.specs.Size.{member_smaller}
use Rattle.twkb_tree.proofs.TreeLemmas.{member_rows_each, own_row_first, under_shape}
use Rattle.twkb_tree.proofs.RowSteps.{own_row-depth}
use Rattle.twkb_flat.proofs.BuildLemmas.{is_simple, has_rows_none, has_rows_more, has_rows_all, next_goes_on}
use Rattle.twkb_flat.proofs.BuildLemmas.{members_valid, own_may_push, own_no_deeper, under_goes_on, all_pushed}
use Rattle.twkb_flat.proofs.BuildLemmas.{under_valid, under_pushed}
use Rattle.twkb_flat.proofs.geometry_rows.+filling.Goals as goal

pub push_members-loop-member-init : goal.push_members-loop-member-init
push_members-loop-member-init t c = has_rows_none _ _ _ _

pub push_members-push_geometry-requires : goal.push_members-push_geometry-requires
push_members-push_geometry-requires t c = (
  search (rules, member_smaller),
  next_goes_on (λ id g. rows_with id c.args.depth g) _ _ _ _ _ _ _ _
      (members_valid _ _ _ _ _ c.as_slice-member-items.ensures.items c.requires)
      c.loop-member.invariant c.loop-member-test.true c.member-item.is c.id_at-id.ensures,
)

pub push_members-loop-member-preserved : goal.push_members-loop-member-preserved
push_members-loop-member-preserved t c = has_rows_more _ _ _ _ _ _ _ _ _ _ c.loop-member.invariant
    c.loop-member-test.true c.member-item.is c.id_at-id.ensures c.in_ok-push_geometry.ensures

pub push_members-returns : goal.push_members-returns
push_members-returns t c =
    has_rows_all _ _ _ _ _ _ _ c.loop-member.invariant c.loop-member-test.false
    ∙ ap (λ rs. c.args.flat.now ++ rs)
    (member_rows_each c.args.depth c.args.ids.now c.as_slice-member-items.result.now
    ∙ ap (λ gs. member_rows c.args.depth c.args.ids.now (trees gs))
    c.as_slice-member-items.ensures.items)

pub push_geometry-push-requires : goal.push_geometry-push-requires
push_geometry-push-requires t c = own_may_push (λ k. rows_under k c.args.geometry.now) _ _ _ _ _
    c.requires (own_row_first _ _ _) c.own_row.ensures

pub push_geometry-overflow_add-below : goal.push_geometry-overflow_add-below
push_geometry-overflow_add-below t c =
    let g = c.args.geometry.now in
    let small = own_no_deeper (λ k. rows_under k g) c.args.depth _ _ _ c.requires
    (own_row_first _ _ g)
    (own_row-depth _ _ g) in
    omega arith

pub push_geometry-push_under-requires : goal.push_geometry-push_under-requires
push_geometry-push_under-requires t c = (
  search rules,
  under_goes_on (λ k. rows_under k c.args.geometry.now) _ _ _ _ _ _ c.requires (own_row_first _ _ _)
      c.own_row.ensures c.in_ok-push.ensures.pushed,
)

pub push_geometry-returns : goal.push_geometry-returns
push_geometry-returns t c =
    let all = all_pushed (λ k. rows_under k c.args.geometry.now) _ _ _ _ _ _ (own_row_first _ _ _)
    c.own_row.ensures c.in_ok-push.ensures.pushed in
    subst (λ rs. OnOk c.push_under.result (c.push_under.new.flat ≡ rs)) all c.push_under.ensures

pub push_under-push_members-requires : goal.push_under-push_members-requires
push_under-push_members-requires t c = (
  search rules,
  under_valid _ _ _ _ c.requires
      (under_shape _ _ _ _ _ c.shape.ensures c.in-Collection.is),
)

pub push_under-returns-in-Collection : goal.push_under-returns-in-Collection
push_under-returns-in-Collection t c = under_pushed _ _ _ _ _ _
    (under_shape _ _ _ _ _ c.shape.ensures c.in-Collection.is) c.push_members.ensures

pub push_under-push_components-requires : goal.push_under-push_components-requires
push_under-push_components-requires t c = record {
  valid = c.requires;
  no_collection = is_simple _ _ _ c.shape.ensures c.in_default.not-Collection;
}
