use Rattle.std.proofs.Common.{◌+◌, length, drop, ap, arith, rules}
use Rattle.std.proofs.lemmas.List.{drop_all}
use Rattle.twkb_writer.specs.Bytes.{members_below, rows_bytes}
use Rattle.twkb_writer.proofs.MeasuringParts.{flat_measurable}
use Rattle.twkb_writer.proofs.PutLemmas.{begun, step, finished, given_up, reads_none, reads_join, reads_row, one_node}
use Rattle.twkb_writer.proofs.PutLemmas.{at_most}
use Rattle.twkb_writer.proofs.BelowLemmas.{rows_step, entries_step, walks_step, points_step, points_within}
use Rattle.twkb_writer.proofs.BelowLemmas.{next_rows, walks_twice}
use Rattle.twkb_writer.proofs.rows.put_rows.Goals as goal

pub loop-index-init : goal.loop-index-init
loop-index-init g c = record {
  progress = rw c.origin.ensures (begun _ _);
  room = omega arith;
  read = (0, 0, omega arith, omega arith, reads_none _ _ _);
}

pub start_of_points-start-requires : goal.start_of_points-start-requires
start_of_points-start-requires g c = omega (
  arith,
  entries_step _ _ _ c.node-node.ensures.node,
  c.loop-index.invariant.room,
  c.len-learnt.ensures,
)

pub put_points-requires-clause-within : goal.put_points-requires-clause-within
put_points-requires-clause-within g c = points_within _ _ _ c.node-node.ensures.node

pub put_points-requires-clause-fits : goal.put_points-requires-clause-fits
put_points-requires-clause-fits g c = let within = points_within _ _ _ c.node-node.ensures.node in
    omega (arith, within, (flat_measurable _ c.node_count-index-end.ensures.sound).few_points)

pub loop-index-preserved : goal.loop-index-preserved
loop-index-preserved g c =
    let node = c.node-node.ensures.node in
    let (n, m, walked, seen, reads) = c.loop-index.invariant.read in
    let e = rows_step c.args.job.now.style c.args.job.now.flat.now c.loop-index.index
    c.node-node.result node c.loop-index.start.cursor
    (drop c.loop-index.start.entry c.args.job.now.sizes.now) in
    let after = step e c.loop-index.invariant.progress
    c.put_lead.ensures.put in
    let next = next_rows c.args.job.now.style c.node-node.result.row.precision
    c.args.job.now.sizes.now c.loop-index.start.entry c.start_of_points-start.result.entry
    c.loop-index.start.cursor _ c.start_of_points-start.result.cursor _
    (drop (c.loop-index.index + 1) c.args.job.now.flat.now)
    c.start_of_points-start.ensures.entry c.start_of_points-start.ensures.at
    c.put_points.ensures.moved in
    let members_read = length (members_below c.node-node.result.row.depth
    (drop (c.loop-index.index + 1) c.args.job.now.flat.now)) in
    let walk = walks_step c.args.job.now.flat.now c.loop-index.index c.node-node.result node in
    let see = points_step c.args.job.now.flat.now c.loop-index.index c.node-node.result node in
    record {
      progress = step next after c.put_points.ensures.put;
      room = omega (arith, entries_step _ _ _ node, c.start_of_points-start.ensures.entry, c.loop-index.invariant.room);
      read = (
        n + (1 + members_read),
        m + c.node-node.result.points,
        omega (arith, walked, walk),
        omega (arith, seen, see),
        reads_row _ _ _ _ _ _ _ _ _ reads (one_node _ _ c.node-node.ensures.no_fewer
            c.node-node.ensures.counted) c.put_lead.ensures.reads (at_most _ _ _ _
            c.reads_fit.ensures.nodes c.reads_fit.ensures.points c.put_points.ensures.reads),
      );
    }

pub returns-then-is_some-clause-put : goal.returns-then-is_some-clause-put
returns-then-is_some-clause-put g c = given_up (search rules)
    c.loop-index.invariant.progress

pub returns-then-is_some-clause-reads : goal.returns-then-is_some-clause-reads
returns-then-is_some-clause-reads g c =
    let (n, m, walked, seen, reads) = c.loop-index.invariant.read in
    let twice = walks_twice c.args.job.now.flat.now in
    reads_join _ _ _ _ _ 0 0 _ _ reads (reads_none _ _ _) (omega (arith, walked)) (omega (arith, seen))

pub returns-clause-put : goal.returns-clause-put
returns-clause-put g c =
    finished (ap (rows_bytes c.args.job.now.style c.loop-index.start.cursor
    (drop c.loop-index.start.entry c.args.job.now.sizes.now))
    (drop_all c.loop-index.index c.args.job.now.flat.now (omega arith)))
    c.loop-index.invariant.progress

pub returns-clause-reads : goal.returns-clause-reads
returns-clause-reads g c =
    let (n, m, walked, seen, reads) = c.loop-index.invariant.read in
    let none = drop_all c.loop-index.index c.args.job.now.flat.now (omega arith) in
    let twice = walks_twice c.args.job.now.flat.now in
    reads_join _ _ _ _ _ 0 0 _ _ reads (reads_none _ _ _) (omega (arith, walked)) (omega (arith, seen))
