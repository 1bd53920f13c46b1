use Rattle.std.proofs.Common.{◌∙◌, ◌+◌, ◌-◌, sym, ap, arith}
use Rattle.twkb_writer.specs.Bytes.{way_bytes, way_end}
use Rattle.twkb_writer.proofs.PutLemmas.{begun, step, finished, part_more, part_two, way_two, whole_part}
use Rattle.twkb_writer.proofs.PutLemmas.{nothing_left, exactly_none, exactly_point, exactly_same}
use Rattle.twkb_writer.proofs.points.put_each_point.Goals as goal

pub loop-index-init : goal.loop-index-init
loop-index-init g c =
    let same = whole_part (g.P.PlacedPoints.points c.args.all.now) c.args.node.now.first.0 c.args.node.now.points in
    record {
      behind = omega arith;
      within = omega arith;
      progress = rw same (begun _ _);
      last = ap (way_end c.args.cursor.now) same;
      reads = exactly_same _ _ 0 0 _ (exactly_none _ c.reads_fit.ensures.nodes c.reads_fit.ensures.points)
          (omega arith);
    }

pub loop-index-preserved : goal.loop-index-preserved
loop-index-preserved g c =
    let ps = g.P.PlacedPoints.points c.args.all.now in
    let i = c.loop-index.index in
    let read = i - c.args.node.now.first.0 in
    let at = c.loop-index.cursor in
    let end = c.args.node.now.first.0 + c.args.node.now.points in
    let two = part_two ps i end c.point-to.result c.point-next.result (omega arith)
    c.point-to.ensures.point c.point-next.ensures.point in
    record {
      behind = omega (arith, c.loop-index.invariant.behind);
      within = omega (arith, c.loop-index.invariant.within);
      progress = rw c.put_steps.ensures.moved
          (step (ap (way_bytes at) two ∙ way_two at c.point-to.result c.point-next.result _)
          c.loop-index.invariant.progress c.put_steps.ensures.put);
      last = rw c.put_steps.ensures.moved
          (sym (ap (way_end at) two) ∙ c.loop-index.invariant.last);
      reads = exactly_same _ _ 0 (read + 1 + 1) _ (exactly_point _ _ _ 0 (read + 1)
          (exactly_point _ _ _ 0 read c.loop-index.invariant.reads c.point-to.ensures.counted)
          c.point-next.ensures.counted) (omega (arith, c.loop-index.invariant.behind));
    }

pub returns-then-index-end-clause-put : goal.returns-then-index-end-clause-put
returns-then-index-end-clause-put g c =
    let ps = g.P.PlacedPoints.points c.args.all.now in
    let i = c.loop-index.index in
    let end = c.args.node.now.first.0 + c.args.node.now.points in
    let to = c.point-to-then-index-end.result in
    finished (ap (way_bytes to) (nothing_left ps (i + 1) end (omega arith)))
    (step (ap (way_bytes c.loop-index.cursor) (part_more ps i end to (omega arith)
    c.point-to-then-index-end.ensures.point)) c.loop-index.invariant.progress
    c.put_step.ensures.put)

pub returns-then-index-end-clause-moved : goal.returns-then-index-end-clause-moved
returns-then-index-end-clause-moved g c =
    let ps = g.P.PlacedPoints.points c.args.all.now in
    let i = c.loop-index.index in
    let end = c.args.node.now.first.0 + c.args.node.now.points in
    let to = c.point-to-then-index-end.result in
    c.put_step.ensures.moved ∙ sym (ap (way_end to) (nothing_left ps (i + 1) end (omega arith)))
    ∙ sym (ap (way_end c.loop-index.cursor) (part_more ps i end to (omega arith)
    c.point-to-then-index-end.ensures.point)) ∙ c.loop-index.invariant.last

pub returns-then-index-end-clause-reads : goal.returns-then-index-end-clause-reads
returns-then-index-end-clause-reads g c =
    let read = c.loop-index.index - c.args.node.now.first.0 in
    exactly_same _ _ 0 (read + 1) _ (exactly_point _ _ _ 0 read c.loop-index.invariant.reads
    c.point-to-then-index-end.ensures.counted) (omega (arith, c.loop-index.invariant.behind))

pub returns-else-index-end-clause-put : goal.returns-else-index-end-clause-put
returns-else-index-end-clause-put g c =
    finished (ap (way_bytes c.loop-index.cursor) (nothing_left (g.P.PlacedPoints.points c.args.all.now)
    c.loop-index.index (c.args.node.now.first.0 + c.args.node.now.points) (omega arith)))
    c.loop-index.invariant.progress

pub returns-else-index-end-clause-moved : goal.returns-else-index-end-clause-moved
returns-else-index-end-clause-moved g c =
    sym (ap (way_end c.loop-index.cursor) (nothing_left (g.P.PlacedPoints.points c.args.all.now)
    c.loop-index.index (c.args.node.now.first.0 + c.args.node.now.points) (omega arith)))
    ∙ c.loop-index.invariant.last

pub returns-else-index-end-clause-reads : goal.returns-else-index-end-clause-reads
returns-else-index-end-clause-reads g c = exactly_same _ _ 0 (c.loop-index.index - c.args.node.now.first.0) _
    c.loop-index.invariant.reads (omega (arith, c.loop-index.invariant.within))
