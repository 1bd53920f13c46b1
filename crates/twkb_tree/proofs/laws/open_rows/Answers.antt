use Rattle.std.proofs.Common.{refl}
use Rattle.twkb_tree.proofs.OpenLaws.{open_more, open_none, open_refused, continues_open}
use Rattle.twkb_tree.proofs.LimitLaws.{nodes_after, points_after, nodes_kept, points_kept}
use Rattle.twkb_tree.proofs.laws.open_rows.Goals as goal

pub returns : goal.returns
returns c = record {
  none = open_none;
  more = open_more;
  nodes = λ before r. nodes_after r.depth r before refl;
  points = λ before r. points_after r.depth r before refl;
  kept = λ l before a. (nodes_kept l before a, points_kept l before a);
  decide = open_refused;
  decide_one = continues_open;
}
