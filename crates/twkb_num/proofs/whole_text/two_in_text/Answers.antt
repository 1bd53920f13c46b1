use Rattle.std.proofs.Common.{◌∙◌, ◌-◌, ◌<◌, ◌^◌, refl, sym, subst, arith, length, rules, FitsSigned, w64}
use Rattle.std.specs.Prelude.{nat_lt}
use Rattle.std.proofs.lemmas.Int.{to_z-of_z}
use Rattle.std.proofs.lemmas.List.{length-map}
use Rattle.twkb_num.proofs.FoundLemmas.{marks_of}
use Rattle.twkb_num.proofs.WordLemmas.{bytes_of, groups_small}
use Rattle.twkb_num.proofs.BlockLemmas.{units_below, length-first_and_last_units, first_groups, last_groups, two_read}
use Rattle.twkb_num.proofs.whole_text.two_in_text.Goals as goal

pub returns-clause-spelled : goal.returns-clause-spelled
returns-clause-spelled c =
    let text = c.args.text.now in
    let used = c.in_ok-used.used in
    let us = c.first_and_last_units-units.result in
    let us_are = c.first_and_last_units-units.ensures in
    let marked = c.in_ok-ends.ensures in
    let found = c.in_ok-used.ensures in
    let long = length-first_and_last_units text us c.if-count-lt-WORD.false us_are in
    let below = units_below text us us_are in
    let first = c.unzigzag.ensures ∙ c.numbers-first.ensures.first
    ∙ first_groups us long below _ used refl found.some found.first_short in
    let second = c.unzigzag-2.ensures ∙ c.numbers-first.ensures.second
    ∙ last_groups us long below _ (length text - used) refl (omega arith) (omega arith) in
    let marks = marks_of 32 us in
    let runs = found.runs marks (length-map us (λ u. nat_lt u 32) ∙ long) marked.marks in
    let y_fits : FitsSigned w64 c.unzigzag.result = search rules in
    let x_fits : FitsSigned w64 c.unzigzag-2.result = search rules in
    simp to_z-of_z
    (two_read text us c.in_ok-ends.ends used c.if-count-lt-WORD.false (bytes_of text c.type_inv.text) us_are marked
    found.first_short found.within found.second_short runs
    ∙ rw (sym first, sym second) refl)

pub returns-clause-small : goal.returns-clause-small
returns-clause-small c =
    let first = c.unzigzag.ensures ∙ c.numbers-first.ensures.first in
    let second = c.unzigzag-2.ensures ∙ c.numbers-first.ensures.second in
    let y_fits : FitsSigned w64 c.unzigzag.result = search rules in
    let x_fits : FitsSigned w64 c.unzigzag-2.result = search rules in
    simp to_z-of_z
    (subst (λ n. n < 2 ^ 40) (sym first) (groups_small _), subst (λ n. n < 2 ^ 40) (sym second) (groups_small _))
