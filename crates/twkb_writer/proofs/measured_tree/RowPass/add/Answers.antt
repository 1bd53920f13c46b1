use Rattle.std.proofs.Common.{[], ◌∷◌, refl}
use Rattle.twkb_flat.specs.Rows.{row_with}
use Rattle.twkb_writer.proofs.MeasuringParts.{totals_small, measurable_after}
use Rattle.twkb_writer.proofs.MeasuringPass.{row_added}
use Rattle.twkb_writer.proofs.measured_tree.RowPass.add.Goals as goal

pub take_row-requires-clause-small : goal.take_row-requires-clause-small
take_row-requires-clause-small c = λ k within. totals_small _ _ _ _ c.requires.stands
    (measurable_after (row_with c.args.row c.args.points.now ∷ []) c.requires.rest c.requires.fit) k

pub returns : goal.returns
returns c = row_added _ _ _ _ _ _ refl refl c.take_points-totals.ensures.value
    c.take_points-totals.ensures.most c.take_row.ensures c.before_row-self.ensures
