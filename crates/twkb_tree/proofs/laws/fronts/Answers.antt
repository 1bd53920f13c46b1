use Rattle.twkb_tree.proofs.RowLaws.{rows_front}
use Rattle.twkb_tree.proofs.LimitLaws.{valid_front, one_valid_front}
use Rattle.twkb_tree.proofs.laws.fronts.Goals as goal

pub returns : goal.returns
returns c = record { geometries = rows_front; valid = valid_front; one = one_valid_front }
