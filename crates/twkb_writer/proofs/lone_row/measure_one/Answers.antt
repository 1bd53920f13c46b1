use Rattle.std.proofs.Common.{rules}
use Rattle.std.proofs.lemmas.Result.{on_ok_weaker}
use Rattle.twkb_writer.proofs.MeasuringParts.{flat_measurable}
use Rattle.twkb_writer.proofs.MeasuringPass.{root_whole, reads_point, sizes_of_point, points_of_one}
use Rattle.twkb_writer.proofs.PutLemmas.{reads_back, exactly_none}
use Rattle.twkb_writer.proofs.lone_row.measure_one.Goals as goal

pub unreachable-requires : goal.unreachable-requires
unreachable-requires c = root_whole _ _ c.requires.valid c.node-node.ensures.node (search rules)

pub row_entry-entry-requires-clause-few : goal.row_entry-entry-requires-clause-few
row_entry-entry-requires-clause-few c = (flat_measurable c.args.flat.now c.requires.valid).few_points

pub returns-then-is_one_point-clause-sizes : goal.returns-then-is_one_point-clause-sizes
returns-then-is_one_point-clause-sizes c =
    let are = sizes_of_point c.args.style c.args.flat.now c.node-node.result c.in-Some.precision
    c.point-point.result c.point_entry.result c.requires.valid c.requires.one
    c.node-node.ensures.node c.in-Some.is
    (c.is_one_point.ensures.0 c.if-is_one_point.true) c.point-point.ensures.point
    (c.point_entry.ensures c.args.style c.in-Some.precision) in
    on_ok_weaker c.keep_alone.result (λ kept. rw kept are) c.keep_alone.ensures

pub returns-then-is_one_point-clause-reads : goal.returns-then-is_one_point-clause-reads
returns-then-is_one_point-clause-reads c =
    reads_point _ _ _ c.node-node.result.points _ c.reads_fit.ensures.nodes
    c.reads_fit.ensures.points c.node-node.ensures.counted c.point-point.ensures.counted
    (c.is_one_point.ensures.0 c.if-is_one_point.true).1
    (points_of_one c.args.flat.now c.node-node.result c.requires.one c.node-node.ensures.node)

pub returns-clause-sizes : goal.returns-clause-sizes
returns-clause-sizes c = on_ok_weaker c.keep_alone-2.result
    (λ kept. rw kept c.row_entry-entry.ensures.sizes) c.keep_alone-2.ensures

pub returns-clause-reads : goal.returns-clause-reads
returns-clause-reads c =
    reads_back c.args.work.now c.args.work.now c.node-node.new.work _ 0 0 c.node-node.result.points
    _ (exactly_none _ c.reads_fit.ensures.nodes c.reads_fit.ensures.points)
    c.node-node.ensures.counted c.row_entry-entry.ensures.reads
    (points_of_one c.args.flat.now c.node-node.result c.requires.one c.node-node.ensures.node)
