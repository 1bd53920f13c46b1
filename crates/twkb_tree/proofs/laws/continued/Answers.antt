use Rattle.twkb_tree.proofs.LimitLaws.{continued, continues_row, one_geometry_rows}
use Rattle.twkb_tree.proofs.OpenLaws.{continues_is, continues_true}
use Rattle.twkb_tree.proofs.laws.continued.Goals as goal

pub returns : goal.returns
returns c = record {
  next = λ l rs r a. (continued l rs r a, continues_row l rs r);
  test = λ l rs r. (continues_is l rs r, continues_true l rs r);
  counted = one_geometry_rows;
}
