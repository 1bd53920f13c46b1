use Rattle.std.specs.Prelude.{None}
use Rattle.twkb_tree.proofs.TreeLemmas.{length-rows_with}
use Rattle.twkb_tree.proofs.RowLaws.{row_points-with}
use Rattle.twkb_tree.proofs.laws.nodes_are_rows.Goals as goal

pub returns : goal.returns
returns c = record { nodes = length-rows_with None 0; points = row_points-with None 0 }
