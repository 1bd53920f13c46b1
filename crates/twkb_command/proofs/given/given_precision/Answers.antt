use Rattle.std.proofs.Common.{codes}
use Rattle.clap.specs.Words.{found_of, one_text}
use Rattle.twkb_command.proofs.MisuseLemmas.{no_precision}
use Rattle.twkb_command.proofs.given.given_precision.Goals as goal

pub returns-in-Err-clause-none : goal.returns-in-Err-clause-none
returns-in-Err-clause-none c =
    no_precision (one_text (found_of c.args.matches.now) (codes "precision"))
    (λ t same. (c.in-Err.ensures.value t same).0)
