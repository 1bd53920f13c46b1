use Rattle.twkb_tree.proofs.RowLaws.{valid_depths}
use Rattle.twkb_tree.proofs.laws.depths.Goals as goal

pub returns : goal.returns
returns c = valid_depths
