use Rattle.std.proofs.Common.{[]}
use Rattle.twkb_grammar.specs.Machine.{nothing}
use Rattle.twkb_grammar.proofs.Trees.{tree_runs}
use Rattle.twkb_grammar.proofs.TreesBack.{runs_are_items}
use Rattle.twkb_grammar.proofs.laws.machine.Goals as goal

pub returns : goal.returns
returns c = λ g is. ((λ h. tree_runs g [] nothing is h.0 h.1), (λ r. let h = runs_are_items g is r in (h.1, h.0)))
