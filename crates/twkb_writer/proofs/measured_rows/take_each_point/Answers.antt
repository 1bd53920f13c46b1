use Rattle.std.proofs.Common.{◌+◌, ◌-◌, ◌*◌, ◌∙◌, arith}
use Rattle.twkb_writer.proofs.PutLemmas.{tail_last, tail_two, tail_first, exactly_none, exactly_point, exactly_same}
use Rattle.twkb_writer.proofs.measured_rows.take_each_point.Goals as goal

pub loop-pair-init : goal.loop-pair-init
loop-pair-init g c =
    let node = c.args.node.now in
    let end = node.first.0 + node.points in
    record {
      value = λ ahead starts. tail_last (g.P.PlacedPoints.points c.args.all.now) (node.first.0 + (node.points - 1))
          (end - (1 + 2 * 0)) end _ ahead _ (omega arith) (omega arith) c.point-point.ensures.point
          (c.begun-points.ensures.value ahead starts);
      most = omega (arith, c.begun-points.ensures.most);
      reads = exactly_point c.args.work.now c.args.work.now c.point-point.new.work 0 0
          (exactly_none c.args.work.now (omega arith) (omega arith)) c.point-point.ensures.counted;
    }

pub loop-pair-preserved : goal.loop-pair-preserved
loop-pair-preserved g c =
    let inv = c.loop-pair.invariant in
    let node = c.args.node.now in
    let end = node.first.0 + node.points in
    let last = node.first.0 + (node.points - 1) in
    let pair = c.loop-pair.pair in
    let back = 1 + 2 * pair in
    record {
      value = λ ahead starts.
          tail_two (g.P.PlacedPoints.points c.args.all.now) (end - back) (last - 2 * pair - 1)
          (last - 2 * pair - 2) (end - (1 + 2 * (pair + 1))) end _ _ ahead _
          (omega arith) (omega arith) (omega arith) (omega arith)
          c.point-next.ensures.point c.point-point-in-loop-pair.ensures.point
          (c.with_first_two-points.ensures.value _ (inv.value ahead starts));
      most = omega (arith, inv.most, c.with_first_two-points.ensures.most);
      reads = exactly_same _ _ 0 (back + 1 + 1) _ (exactly_point c.args.work.now c.point-next.new.work _ 0 (back + 1)
          (exactly_point c.args.work.now c.loop-pair.work c.point-next.new.work 0 back inv.reads
          c.point-next.ensures.counted) c.point-point-in-loop-pair.ensures.counted)
          (omega arith);
    }

pub returns-clause-value : goal.returns-clause-value
returns-clause-value g c = λ ahead starts.
    let node = c.args.node.now in
    tail_first (g.P.PlacedPoints.points c.args.all.now) node.first.0 node.points
    (node.first.0 + node.points - (1 + 2 * c.loop-pair.pair)) c.point-first.result ahead _
    (omega arith) (omega arith) c.point-first.ensures.point (c.with_first.ensures.value _
    (c.tail-2.ensures ∙ c.loop-pair.invariant.value ahead starts))
