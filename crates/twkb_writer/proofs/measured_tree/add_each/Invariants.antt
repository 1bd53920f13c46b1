-- The rows of the components from the place on are added.
use Rattle.twkb_writer.specs.MeasuredRows.{Adds, part_row}
use Rattle.twkb_writer.proofs.MeasuringPass.{rows_from}
use Rattle.twkb_writer.proofs.measured_tree.add_each.Given as goal

abbrev pub invariant-loop-index : goal.invariant-loop-index
invariant-loop-index g l = Adds l.fn.pass
    (rows_from (λ id. g.T.MeasuredComponent.rows (part_row l.kind l.depth id)) l.ids l.components l.index) l.pass
