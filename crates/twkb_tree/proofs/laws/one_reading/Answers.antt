use Rattle.twkb_tree.proofs.RowLaws.{one_reading, one_geometry}
use Rattle.twkb_tree.proofs.laws.one_reading.Goals as goal

pub returns : goal.returns
returns c = record { list = one_reading; one = one_geometry }
