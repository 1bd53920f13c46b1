use Rattle.std.proofs.Common.{arith}
use Rattle.twkb_writer.specs.MeasuredRows.{part_row}
use Rattle.twkb_writer.proofs.MeasuringPass.{each_none, each_awaits, each_more, each_all}
use Rattle.twkb_writer.proofs.measured_tree.add_each.Goals as goal

pub loop-index-init : goal.loop-index-init
loop-index-init g c = each_none (λ id. g.T.MeasuredComponent.rows (part_row c.args.kind c.args.depth id))
    c.args.ids.now c.args.components.now c.args.pass.now

pub add_to-requires : goal.add_to-requires
add_to-requires g c =
    each_awaits (λ id. g.T.MeasuredComponent.rows (part_row c.args.kind c.args.depth id)) c.args.ids.now
    c.args.components.now c.loop-index.index _ _ _ _ c.loop-index-test.true c.loop-index.auto.index
    c.index-components-index.is c.id_at.ensures c.requires c.loop-index.invariant

pub loop-index-preserved : goal.loop-index-preserved
loop-index-preserved g c =
    each_more (λ id. g.T.MeasuredComponent.rows (part_row c.args.kind c.args.depth id)) c.args.ids.now
    c.args.components.now c.loop-index.index _ _ _ _ _ c.loop-index-test.true c.loop-index.auto.index
    c.index-components-index.is c.id_at.ensures c.loop-index.invariant c.add_to.ensures

pub returns : goal.returns
returns g c = each_all (λ id. g.T.MeasuredComponent.rows (part_row c.args.kind c.args.depth id))
    c.args.ids.now c.args.components.now _ _ _ (omega arith) c.loop-index.invariant
