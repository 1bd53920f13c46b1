use Rattle.std.proofs.Common.{◌+◌, ◌-◌, ◌<◌, ◌^◌, arith, rules, length}
use Rattle.twkb_num.proofs.BlockLemmas.{ends_after, no_ends}
use Rattle.twkb_body.specs.Running.{ListGoesOn, GoesOn}
use Rattle.twkb_body.proofs.PointRuns.{err_only, list_none, list_on, list_stops_on, list_points, list_points_stop}
use Rattle.twkb_body.proofs.InFront.{points_in_front}
use Rattle.twkb_body.proofs.list_points.take_eights.Goals as goal

pub loop-left-init : goal.loop-left-init
loop-left-init c = record {
  so_far = list_none c.args.flat.now c.args.from c.args.bytes.now c.args.most c.requires.line
      c.requires.room;
  ends = no_ends 0 128 c.args.bytes.now (omega arith);
}

pub returns-in_err-add_points : goal.returns-in_err-add_points
returns-in_err-add_points c =
    let count = c.in-Some.ensures.count in
    err_only (λ r. GoesOn c.args.flat.now c.args.from c.args.bytes.now c.args.most r
    c.add_points.new.self) _ c.from_residual.ensures.0 (λ e.
    list_stops_on c.loop-left.invariant.so_far
    (list_points_stop c.in-Some.eight.points c.loop-left.flat c.loop-left.left c.in-Some.eight.used
    c.loop-left.position _ (omega (arith, count)) (omega (arith, count, c.loop-left-test.true))
    (points_in_front c.in-Some.eight.points c.loop-left.position _ c.in-Some.eight.used c.in-Some.ensures.points)))

-- eight more points were taken
eight_more : (c : goal.In_ok-add_points) → ListGoesOn c.args.flat.now c.args.from c.args.bytes.now
    c.args.most (record {
      used = c.loop-left.used + c.in-Some.eight.used;
      position = c.in-Some.eight.last;
    }) (c.loop-left.left - 8) c.add_points.new.self
eight_more c =
    let eight = c.in-Some.eight in
    list_on c.loop-left.invariant.so_far
    (list_points eight.points eight.last 8 c.loop-left.flat c.add_points.new.self c.loop-left.left
    eight.used c.loop-left.position _ c.in-Some.ensures.count c.in-Some.ensures.last
    c.loop-left.invariant.so_far.line
    c.loop-left.invariant.so_far.room (omega (arith, c.loop-left-test.true))
    (points_in_front eight.points c.loop-left.position _ eight.used c.in-Some.ensures.points)
    c.in_ok-add_points.ensures.added)

pub overflow_add-used : goal.overflow_add-used
overflow_add-used c =
    let within = (eight_more c).leads.within in
    let few : length c.args.bytes.now < 2 ^ 64 = search rules in
    record { fits = omega arith }

pub loop-left-preserved : goal.loop-left-preserved
loop-left-preserved c = record {
  so_far = eight_more c;
  ends = ends_after 0 128 c.args.bytes.now c.in-Some.eight.ends c.loop-left.used
      c.in-Some.eight.used c.in-Some.ensures.rest;
}

pub returns : goal.returns
returns c = c.loop-left.invariant.so_far
