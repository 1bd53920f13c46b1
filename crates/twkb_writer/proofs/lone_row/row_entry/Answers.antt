use Rattle.std.proofs.Common.{rules, w8, SFits, to_z-of_z}
use Rattle.twkb_writer.proofs.MeasuringPass.{all_points, sizes_of_one}
use Rattle.twkb_writer.proofs.BelowLemmas.{points_within}
use Rattle.twkb_writer.proofs.lone_row.row_entry.Goals as goal

pub take_points-points-requires-clause-within : goal.take_points-points-requires-clause-within
take_points-points-requires-clause-within c = points_within _ _ _ c.requires.node

pub returns-clause-sizes : goal.returns-clause-sizes
returns-clause-sizes c =
    let fits : SFits w8 c.args.precision = search rules in
    let entry = simp (to_z-of_z, fits) at c.entry_for.ensures.value in
    sizes_of_one c.args.style c.args.flat.now c.args.node.now c.args.precision c.blank.result
    c.take_points-points.result _ c.requires.valid c.requires.one c.requires.node
    c.requires.whole
    c.blank.ensures (all_points _ _ c.requires.node _ _ c.none.ensures c.take_points-points.ensures.value) entry
