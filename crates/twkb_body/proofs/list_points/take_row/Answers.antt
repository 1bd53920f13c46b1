use Rattle.twkb_body.specs.Running.{TakesRow}
use Rattle.twkb_body.proofs.PointRuns.{err_only, list_none, list_on, list_stops_on, list_one, list_one_stop, list_two}
use Rattle.twkb_body.proofs.PointRuns.{list_two_stop}
use Rattle.twkb_body.proofs.list_points.take_row.Goals as goal

pub loop-left-init : goal.loop-left-init
loop-left-init c = list_none c.args.flat.now c.args.from c.args.bytes.now c.args.most
    c.requires.line c.requires.room

pub returns-in_err-taken : goal.returns-in_err-taken
returns-in_err-taken c =
    err_only (λ r. TakesRow c.args.flat.now c.args.from c.args.bytes.now c.args.most r
    c.take_eights.new.flat) _ c.from_residual.ensures.0
    (λ e. list_stops_on c.loop-left.invariant c.in_err-taken.ensures)

pub loop-left-preserved-then-rest-ge-BLOCK : goal.loop-left-preserved-then-rest-ge-BLOCK
loop-left-preserved-then-rest-ge-BLOCK c = list_on c.loop-left.invariant c.in_ok-taken.ensures

pub returns-in_err-add_two : goal.returns-in_err-add_two
returns-in_err-add_two c =
    err_only (λ r. TakesRow c.args.flat.now c.args.from c.args.bytes.now c.args.most r
    c.add_two.new.self) _ c.from_residual-in_err-add_two.ensures.0
    (λ e. list_stops_on c.loop-left.invariant (list_two_stop c.if-left-gt1.true c.in-Some.ensures))

pub loop-left-preserved-in-Some : goal.loop-left-preserved-in-Some
loop-left-preserved-in-Some c =
    let so_far = c.loop-left.invariant in
    list_on so_far
    (list_two so_far.line so_far.room c.if-left-gt1.true c.in-Some.ensures c.in_ok-add_two.ensures.added)

pub returns-in_err-add_point : goal.returns-in_err-add_point
returns-in_err-add_point c =
    err_only (λ r. TakesRow c.args.flat.now c.args.from c.args.bytes.now c.args.most r
    c.add_point.new.self) _ c.from_residual-in_err-add_point.ensures.0
    (λ e. list_stops_on c.loop-left.invariant
    (list_one_stop c.loop-left.flat c.loop-left.left _ c.loop-left.position _ _ c.loop-left-test.true
    c.in-Some-front_point.ensures))

pub loop-left-preserved : goal.loop-left-preserved
loop-left-preserved c =
    let so_far = c.loop-left.invariant in
    list_on so_far
    (list_one so_far.line so_far.room c.loop-left-test.true c.in-Some-front_point.ensures
    c.in_ok-add_point.ensures.added)

pub returns : goal.returns
returns c = c.loop-left.invariant.leads
