use Rattle.twkb_flat.proofs.LastPoint.{few_nodes, few_points}
use Rattle.twkb_flat.proofs.laws.caps.Goals as goal

pub returns : goal.returns
returns c = record { nodes = few_nodes; points = few_points }
