use Rattle.twkb_grammar.proofs.Parts.{front_runs, run_is_front, filler}
use Rattle.std.specs.Prelude.{map}
use Rattle.twkb_grammar.proofs.laws.fronts.Goals as goal

pub returns : goal.returns
returns c = λ before. (
  (λ r. let f = run_is_front before r.0 r.1 in (f.tree, map filler f.roles, f.fits, f.items)),
  (λ h. front_runs before h.1 h.0 h.2 h.3),
)
