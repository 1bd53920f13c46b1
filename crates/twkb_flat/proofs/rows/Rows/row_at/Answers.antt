use Rattle.twkb_flat.proofs.FlatOpenLemmas.{row_got}
use Rattle.twkb_flat.proofs.rows.Rows.row_at.Goals as goal

pub returns-clause-row : goal.returns-clause-row
returns-clause-row c = row_got c.args.self.now.flat c.args.id.0 c.row-row.result
    c.own_points-points.result.now c.requires c.row-row.ensures.row
    c.own_points-points.ensures.points
