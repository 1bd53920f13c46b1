use Rattle.twkb_flat.proofs.LastPoint.{same_node}
use Rattle.twkb_flat.proofs.laws.one_node.Goals as goal

pub returns : goal.returns
returns c = same_node
