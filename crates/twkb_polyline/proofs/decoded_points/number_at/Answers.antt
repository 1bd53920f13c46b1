use Rattle.std.proofs.Common.{◌∷◌, [], get_or, length, length-append, sym, ◌∙◌, refl}
use Rattle.std.proofs.Common.{arith, rules, FitsSigned, w64}
use Rattle.std.proofs.lemmas.Bool.{false≢true}
use Rattle.std.proofs.lemmas.Int.{to_z-of_z}
use Rattle.twkb_polyline.proofs.NumberLemmas.{goes_on, GoesOn-push, bad_character, cut_short, next_at, held_more}
use Rattle.twkb_polyline.proofs.NumberLemmas.{number_at, padded, too_long}
use Rattle.twkb_polyline.proofs.decoded_points.number_at.Goals as goal

pub loop-at-preserved : goal.loop-at-preserved
loop-at-preserved c =
    let inv = c.loop-at.invariant in
    let us = c.loop-at.partial in
    let u = get_or c.args.text.now c.loop-at.at 0 in
    let answer = c.in-More.ensures.answer in
    rw c.in-More.ensures.held (record {
      held = held_more (next_at inv c.loop-at-test.true);
      place = omega (arith, inv.place, length-append us (u ∷ []));
      go_on = GoesOn-push us u inv.go_on (goes_on u answer.1.0 answer.1.1);
      within = omega (arith, answer.0, length-append us (u ∷ []));
    })

pub returns-in-Done-default-true-clause-read : goal.returns-in-Done-default-true-clause-read
returns-in-Done-default-true-clause-read c =
    let fits : FitsSigned w64 c.unzigzag.result = search rules in
    let answer = c.in-Done-default-true.ensures.answer in
    simp to_z-of_z (number_at c.loop-at.invariant c.loop-at-test.true
    (answer.1.0 c.in-Done-default-true.shortest-test) c.unzigzag.ensures answer.0.fits)

pub returns-in-Done-clause-read : goal.returns-in-Done-clause-read
returns-in-Done-clause-read c = tt

pub returns-in-Done-clause-refused : goal.returns-in-Done-clause-refused
returns-in-Done-clause-refused c =
    let next = next_at c.loop-at.invariant c.loop-at-test.true in
    let answer = c.in-Done.ensures.answer in
    rw c.at.ensures (
      0,
      omega arith,
      (
        padded next answer.0
            (λ same. false≢true (sym c.in-Done.shortest-test ∙ answer.1.1 same)),
        refl,
      ),
    )

pub returns-in-TooLong-clause-refused : goal.returns-in-TooLong-clause-refused
returns-in-TooLong-clause-refused c =
    let next = next_at c.loop-at.invariant c.loop-at-test.true in
    rw c.at-in-TooLong.ensures (0, omega arith, (too_long next c.in-TooLong.ensures.answer, refl))

pub returns-in-BadUnit-clause-refused : goal.returns-in-BadUnit-clause-refused
returns-in-BadUnit-clause-refused c =
    let next = next_at c.loop-at.invariant c.loop-at-test.true in
    rw c.at-in-BadUnit.ensures (
      length c.loop-at.partial,
      sym c.loop-at.invariant.place,
      bad_character next c.in-BadUnit.ensures.answer,
    )

pub returns-clause-refused : goal.returns-clause-refused
returns-clause-refused c =
    rw c.at-2.ensures (0, omega arith, cut_short c.loop-at.invariant c.loop-at-test.false)
