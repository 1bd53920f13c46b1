use Rattle.std.proofs.Common.{[], ◌∷◌}
use Rattle.twkb_flat.specs.Rows.{row_with}
use Rattle.twkb_writer.proofs.MeasuringPass.{awaits_first, adds_both, rings_added}
use Rattle.twkb_writer.proofs.measured_tree.LinesMeasuredComponent.add_to.Goals as goal

pub add-requires : goal.add-requires
add-requires c = awaits_first (row_with c.args.row [] ∷ []) c.requires
    (rings_added _ c.add_each.ensures c.as_slice.ensures.items)

pub returns : goal.returns
returns c = adds_both (rings_added _ c.add_each.ensures c.as_slice.ensures.items) c.add.ensures
