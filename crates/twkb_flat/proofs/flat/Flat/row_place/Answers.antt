use Rattle.std.proofs.Common.{length}
use Rattle.std.specs.Prelude.{reverse}
use Rattle.twkb_tree.specs.Rows.{row_points}
use Rattle.twkb_tree.proofs.OpenLaws.{root_stands}
use Rattle.twkb_flat.proofs.LastPoint.{other_stands}
use Rattle.twkb_flat.proofs.flat.Flat.row_place.Goals as goal

pub returns-then-depth-eq0 : goal.returns-then-depth-eq0
returns-then-depth-eq0 c = λ os a. (root_stands c.args.depth os (length c.args.self.now)
    (length (row_points c.args.self.now)) c.if-depth-eq0.true).1

pub returns : goal.returns
returns c = λ os a.
    other_stands c.args.depth c.node_count.result c.point_count.result (length c.args.self.now)
    (length (row_points c.args.self.now)) (reverse c.args.self.now) os c.open_row.result
    c.if-depth-eq0.false a c.requires c.open_row.ensures c.node_count.ensures.value
    c.point_count.ensures
