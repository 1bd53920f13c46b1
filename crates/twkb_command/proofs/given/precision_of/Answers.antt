use Rattle.std.proofs.Common.{codes, rules, sym, subst, SFits, w8, to_z-of_z}
use Rattle.clap.specs.Words.{found_of}
use Rattle.clap.proofs.WalkLemmas.{one_text-rows}
use Rattle.twkb_command.specs.CommandLine.{IsPrecisionOf, GivesPrecision}
use Rattle.twkb_command.proofs.given.precision_of.Goals as goal

pub number_of-requires : goal.number_of-requires
number_of-requires c =
    subst GivesPrecision (sym (one_text-rows (found_of c.args.matches.now) (codes "precision"))) c.requires

pub returns : goal.returns
returns c =
    let fits : SFits w8 c.number_of.result = search rules in
    rw (to_z-of_z fits)
    (subst (λ given. IsPrecisionOf given c.number_of.result)
    (one_text-rows (found_of c.args.matches.now) (codes "precision")) c.number_of.ensures)
