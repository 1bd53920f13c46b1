use Rattle.twkb_grammar.proofs.Parts.{run_completes}
use Rattle.twkb_grammar.proofs.laws.completions.Goals as goal

pub returns : goal.returns
returns c = run_completes
