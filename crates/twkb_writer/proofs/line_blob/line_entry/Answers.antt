use Rattle.std.proofs.Common.{◌∙◌, ap, append-nil, to_z-of_z}
use Rattle.twkb_writer.specs.Totals.{tail_of}
use Rattle.twkb_writer.proofs.LoneBlobLemmas.{line_entry_is, all_own}
use Rattle.twkb_writer.proofs.line_blob.line_entry.Goals as goal

pub returns-clause-value : goal.returns-clause-value
returns-clause-value g c =
    let ps = g.L.PointList.points c.args.line.now.list.now in
    let node = c.args.node.now in
    let entry = simp (to_z-of_z, c.ranges.precision) at c.entry_for.ensures.value in
    line_entry_is c.args.style c.args.precision ps node.points _ _ _ c.requires.count c.blank.ensures
    (c.take_points-points.ensures.value _ c.none.ensures ∙ ap tail_of (append-nil _)
    ∙ ap tail_of (all_own ps node.first.0 node.points c.requires.first c.requires.count)) entry
