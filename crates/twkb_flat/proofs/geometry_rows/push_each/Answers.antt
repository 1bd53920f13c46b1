use Rattle.std.proofs.Common.{◌∙◌, ap, arith, refl}
use Rattle.twkb_tree.specs.Rows.{plain_row}
use Rattle.twkb_flat.proofs.BuildLemmas.{has_rows_none, has_rows_more, has_rows_all, next_goes_on, own_may_push}
use Rattle.twkb_flat.proofs.BuildLemmas.{own_no_deeper, under_goes_on, all_pushed}
use Rattle.twkb_flat.proofs.geometry_rows.push_each.Goals as goal

pub loop-component-init : goal.loop-component-init
loop-component-init g c = has_rows_none _ _ _ _

pub push-requires : goal.push-requires
push-requires g c =
    let on = next_goes_on _ _ _ _ _ _ _ _ _ c.requires c.loop-component.invariant c.loop-component-test.true
    c.component-item.is c.id_at-id.ensures in
    own_may_push (λ k. g.T.Component.below k c.component-item.result) _ _ _ _ _ on refl
    (ap (plain_row _ _ _) c.own_points.ensures)

pub overflow_add-depth : goal.overflow_add-depth
overflow_add-depth g c =
    let on = next_goes_on _ _ _ _ _ _ _ _ _ c.requires c.loop-component.invariant c.loop-component-test.true
    c.component-item.is c.id_at-id.ensures in
    let small = own_no_deeper (λ k. g.T.Component.below k c.component-item.result) c.args.depth _ _
    _ on refl refl in
    omega arith

pub push_below-requires : goal.push_below-requires
push_below-requires g c =
    let on = next_goes_on _ _ _ _ _ _ _ _ _ c.requires c.loop-component.invariant c.loop-component-test.true
    c.component-item.is c.id_at-id.ensures in
    record {
      valid = under_goes_on (λ k. g.T.Component.below k c.component-item.result) _ _ _ _ _ _ on refl
          (ap (plain_row _ _ _) c.own_points.ensures) c.in_ok-push.ensures.pushed;
    }

pub loop-component-preserved : goal.loop-component-preserved
loop-component-preserved g c =
    has_rows_more _ _ _ _ _ _ _ _ _ _ c.loop-component.invariant c.loop-component-test.true
    c.component-item.is c.id_at-id.ensures
    (c.in_ok-push_below.ensures
    ∙ all_pushed (λ k. g.T.Component.below k c.component-item.result) _ _ _ _ _ _ refl
    (ap (plain_row _ _ _) c.own_points.ensures) c.in_ok-push.ensures.pushed)

pub returns : goal.returns
returns g c = has_rows_all _ _ _ _ _ _ _ c.loop-component.invariant c.loop-component-test.false
