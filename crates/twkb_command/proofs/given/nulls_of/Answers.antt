use Rattle.std.proofs.Common.{codes, refl, sym}
use Rattle.clap.specs.Words.{found_of}
use Rattle.clap.proofs.WalkLemmas.{raw_values-rows}
use Rattle.twkb_command.proofs.given.nulls_of.Goals as goal

pub returns-in-Some : goal.returns-in-Some
returns-in-Some c =
    rw (sym (raw_values-rows (found_of c.args.matches.now) (codes "null")), sym c.in-Some.ensures)
    c.bytes_of_words.ensures

pub returns-in-None : goal.returns-in-None
returns-in-None c =
    rw (sym (raw_values-rows (found_of c.args.matches.now) (codes "null")), sym c.in-None.ensures, c.new.ensures.items)
    refl
