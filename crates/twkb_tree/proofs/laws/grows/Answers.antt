use Rattle.twkb_tree.specs.Rows.{rows_of}
use Rattle.twkb_tree.proofs.OpenLaws.{new_geometry, grown_geometry}
use Rattle.twkb_tree.proofs.laws.grows.Goals as goal

pub returns : goal.returns
returns c = record { root = λ l gs. new_geometry l (rows_of gs); below = grown_geometry }
