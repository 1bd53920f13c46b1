use Rattle.std.proofs.Common.{◌≡◌, ◌-◌, length, arith}
use Rattle.twkb_writer.proofs.MeasuringParts.{flat_measurable, measurable_from, node_depth, totals_small, tail_small}
use Rattle.twkb_writer.proofs.MeasuringPass.{pass_start, pass_step, points_back, pass_end}
use Rattle.twkb_writer.proofs.PutLemmas.{reads_behind, reads_back}
use Rattle.twkb_writer.proofs.BelowLemmas.{points_within}
use Rattle.twkb_writer.proofs.measured_rows.measure_rows.Goals as goal

pub loop-back-init : goal.loop-back-init
loop-back-init c = record {
  pass = pass_start c.args.style c.args.flat.now (c.node_count-total.result - 0) _ _ _
      (omega (arith, c.node_count-total.ensures.value)) c.clear.ensures c.none-tail.ensures
      c.clear-2.ensures.items;
  reads = reads_behind _ c.args.flat.now (c.node_count-total.result - 0)
      (omega (arith, c.node_count-total.ensures.value)) c.reads_fit.ensures.nodes
      c.reads_fit.ensures.points;
}

pub take_points-points-requires-clause-within : goal.take_points-points-requires-clause-within
take_points-points-requires-clause-within c = points_within _ _ _ c.node-node.ensures.node

pub take_points-points-requires-clause-few : goal.take_points-points-requires-clause-few
take_points-points-requires-clause-few c =
    (flat_measurable c.args.flat.now c.node_count-total.ensures.sound).few_points

pub take_points-points-requires-clause-room : goal.take_points-points-requires-clause-room
take_points-points-requires-clause-room c =
    let fit = flat_measurable c.args.flat.now c.node_count-total.ensures.sound in
    tail_small _ _ _ _ c.loop-back.invariant.pass.stands
    (measurable_from (c.node_count-total.result - c.loop-back.back) c.args.flat.now fit)

pub take_row-entry-requires-clause-deep : goal.take_row-entry-requires-clause-deep
take_row-entry-requires-clause-deep c =
    node_depth _ _ _ (flat_measurable c.args.flat.now c.node_count-total.ensures.sound) c.node-node.ensures.node

pub take_row-entry-requires-clause-small : goal.take_row-entry-requires-clause-small
take_row-entry-requires-clause-small c = λ k below.
    let fit = flat_measurable c.args.flat.now c.node_count-total.ensures.sound in
    totals_small _ _ _ _ c.loop-back.invariant.pass.stands
    (measurable_from (c.node_count-total.result - c.loop-back.back) c.args.flat.now fit) k

pub take_row-entry-requires-clause-points : goal.take_row-entry-requires-clause-points
take_row-entry-requires-clause-points c =
    let fit = flat_measurable c.args.flat.now c.node_count-total.ensures.sound in
    omega (
      arith,
      c.take_points-points.ensures.most,
      tail_small _ _ _ _ c.loop-back.invariant.pass.stands
          (measurable_from (c.node_count-total.result - c.loop-back.back) c.args.flat.now fit),
      points_within _ _ _ c.node-node.ensures.node,
      fit.few_points,
    )

pub loop-back-preserved : goal.loop-back-preserved
loop-back-preserved c =
    let fit = flat_measurable c.args.flat.now c.node_count-total.ensures.sound in
    let inv = c.loop-back.invariant in
    let read = c.take_points-points.ensures in
    record {
      pass = pass_step _ _ c.node_count-total.result c.loop-back.back c.node-node.result _ _ _ _ _ _
          _ _ c.loop-back-test.true fit c.node-node.ensures.node inv.pass read.value read.most
          c.take_row-entry.ensures c.before_row-tail.ensures c.in_ok-keep.ensures;
      reads = reads_back c.args.work.now c.loop-back.work _ _ c.loop-back.back _
          c.node-node.result.points _ inv.reads c.node-node.ensures.counted read.reads
          (points_back c.args.flat.now c.node_count-total.result c.loop-back.back c.node-node.result
          c.loop-back-test.true c.node-node.ensures.node);
    }

pub returns-clause-sizes : goal.returns-clause-sizes
returns-clause-sizes c =
    pass_end _ _ (c.node_count-total.result - c.loop-back.back) _ _ _ _
    c.node_count-total.ensures.sound (omega (arith, c.loop-back-test.false))
    c.loop-back.invariant.pass c.reverse.ensures.items

pub returns-clause-reads : goal.returns-clause-reads
returns-clause-reads c =
    let none_left : c.node_count-total.result - c.loop-back.back ≡ 0 = omega (arith, c.loop-back-test.false) in
    let all_read : c.loop-back.back ≡ length c.args.flat.now = omega
    (arith, c.loop-back-test.false, c.node_count-total.ensures.value) in
    rw all_read at rw none_left at c.loop-back.invariant.reads
