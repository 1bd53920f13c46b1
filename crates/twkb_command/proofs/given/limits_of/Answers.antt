use Rattle.std.proofs.Common.{codes, sym, subst}
use Rattle.clap.specs.Words.{found_of}
use Rattle.clap.proofs.WalkLemmas.{one_text-rows}
use Rattle.twkb_command.specs.CommandLine.{AreLimits, GivesNest}
use Rattle.twkb_command.proofs.given.limits_of.Goals as goal

pub nest_limits-requires : goal.nest_limits-requires
nest_limits-requires c =
    subst GivesNest (sym (one_text-rows (found_of c.args.matches.now) (codes "max-nest"))) c.requires

pub returns : goal.returns
returns c =
    subst (λ given. AreLimits given c.nest_limits.result)
    (one_text-rows (found_of c.args.matches.now) (codes "max-nest")) c.nest_limits.ensures
