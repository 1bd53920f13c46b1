use Rattle.std.proofs.Common.{◌<◌, ◌∙◌, ap, sym, arith, rules, FitsSigned, w64}
use Rattle.std.proofs.lemmas.Int.{to_z-of_z}
use Rattle.twkb_num.specs.Alphabet.{five_group}
use Rattle.twkb_polyline.proofs.NumberLemmas.{two_number, two_begun}
use Rattle.twkb_polyline.proofs.whole.later_number.Goals as goal

pub returns-in_default : goal.returns-in_default
returns-in_default c =
    let then = c.in_ok-unit.ensures.lookup.3 in
    let high : 0 < c.in_ok-last.last = omega (arith, c.if-last-eq0.false) in
    let fits : FitsSigned w64 c.unzigzag.result = search rules in
    simp to_z-of_z (two_number then.0 c.requires.goes_on (ap five_group (sym (then.1 0)) ∙ c.in_ok-last.ensures)
    high c.unzigzag.ensures)

pub long_number-requires : goal.long_number-requires
long_number-requires c =
    let then = c.in_ok-unit.ensures.lookup.3 in
    two_begun then.0 c.requires.goes_on (ap five_group (sym (then.1 0)) ∙ c.in-Some.ensures)
