use Rattle.twkb_tree.proofs.RowLaws.{row_admitted, admits_row, one_grows, one_came}
use Rattle.twkb_tree.proofs.laws.admitted.Goals as goal

pub returns : goal.returns
returns c = record {
  list = λ rs r a. (row_admitted rs r a, admits_row rs r);
  one = λ rs r a. (λ h. one_grows rs r a h.0 h.1, one_came rs r);
}
