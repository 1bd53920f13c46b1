use Rattle.std.proofs.Common.{rules}
use Rattle.twkb_tree.proofs.geometry.ids_fit.Goals as goal

pub returns-in-None : goal.returns-in-None
returns-in-None c = search rules
