use Rattle.std.proofs.Common.{◌∙◌, ap, sym, rules, FitsSigned, w64}
use Rattle.std.proofs.lemmas.Int.{to_z-of_z}
use Rattle.twkb_num.specs.Alphabet.{five_group}
use Rattle.twkb_polyline.proofs.NumberLemmas.{one_number}
use Rattle.twkb_polyline.proofs.whole.whole_number.Goals as goal

pub returns-in_default : goal.returns-in_default
returns-in_default c =
    let there = c.in_ok-unit.ensures.lookup.3 in
    let fits : FitsSigned w64 c.unzigzag.result = search rules in
    simp to_z-of_z (one_number there.0 (ap five_group (sym (there.1 0)) ∙ c.in_ok-only.ensures) c.unzigzag.ensures)

pub later_number-requires : goal.later_number-requires
later_number-requires c =
    let there = c.in_ok-unit.ensures.lookup.3 in
    record { within = there.0; goes_on = ap five_group (sym (there.1 0)) ∙ c.in-Some.ensures }
