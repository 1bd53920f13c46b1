use Rattle.std.proofs.Common.{refl}
use Rattle.twkb_tree.proofs.laws.table_rows.Goals as goal

pub returns : goal.returns
returns c = record { members = refl; polygons = refl }
