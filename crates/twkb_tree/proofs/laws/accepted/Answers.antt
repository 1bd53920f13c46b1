use Rattle.twkb_tree.proofs.LimitLaws.{valid_rows, accepted_rows, row_accepted, accepts_row, accepted_begins}
use Rattle.twkb_tree.proofs.LimitLaws.{accepts_begun}
use Rattle.twkb_tree.proofs.OpenLaws.{accepts_is, accepts_true}
use Rattle.twkb_tree.proofs.laws.accepted.Goals as goal

pub returns : goal.returns
returns c = record {
  one_by_one = λ l rs. (valid_rows l rs, accepted_rows l rs);
  next = λ l rs r v. (row_accepted l rs r v, accepts_row l rs r);
  begins = λ l rs r v. (accepted_begins l rs r v, accepts_begun l rs r);
  test = λ l rs r. (accepts_is l rs r, accepts_true l rs r);
}
