use Rattle.twkb_tree.proofs.OpenLaws.{root_stands, below_stands}
use Rattle.twkb_tree.proofs.row_place.RowPlace.at.Goals as goal

pub returns-then-depth-eq0 : goal.returns-then-depth-eq0
returns-then-depth-eq0 c = record {
  stands = root_stands c.args.depth c.args.rows.now c.args.nodes
      c.args.points c.if-depth-eq0.true;
}

pub returns : goal.returns
returns c = record {
  stands = below_stands c.args.depth c.args.rows.now c.args.nodes c.args.points _
      c.if-depth-eq0.false c.if-above-rows.false;
}
