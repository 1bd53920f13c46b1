-- The rows of the members from the place on are added.
use Rattle.twkb_tree.specs.Rows.{rows_with}
use Rattle.twkb_writer.specs.MeasuredRows.{Adds}
use Rattle.twkb_writer.proofs.MeasuringPass.{rows_from}
use Rattle.twkb_writer.proofs.measured_tree.+measuring.Given as goal

abbrev pub invariant-add_members-loop-index : goal.invariant-add_members-loop-index
invariant-add_members-loop-index l = Adds l.fn.pass
    (rows_from (λ id g. rows_with id l.depth g) l.ids l.items l.index) l.pass
