use Rattle.std.proofs.lemmas.List.{map-set}
use Rattle.twkb_flat.proofs.kept_nodes.link.Goals as goal
use Rattle.twkb_flat.specs.KeptNodes.{next_of}
use Rattle.twkb_flat.proofs.LastPoint.{same_placed}

pub returns-clause-placed_rows : goal.returns-clause-placed_rows
returns-clause-placed_rows c = same_placed c.args.kept.now c.args.at c.args.to _

pub returns-clause-links : goal.returns-clause-links
returns-clause-links c = map-set next_of c.args.kept.now c.args.at _
