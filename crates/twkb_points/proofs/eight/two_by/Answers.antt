use Rattle.std.proofs.Common.{rules, arith, FitsSigned, w64}
use Rattle.std.proofs.lemmas.Int.{to_z-of_z}
use Rattle.twkb_points.proofs.PointLemmas.{step_in_range, second_kept, two_further, two_near}
use Rattle.twkb_points.proofs.eight.two_by.Goals as goal

pub step-one-requires-clause-x_in_range : goal.step-one-requires-clause-x_in_range
step-one-requires-clause-x_in_range g c =
    let two = c.x_first-four.ensures.steps _ c.in_ok-four_by_ends.ensures.four in
    let fits : FitsSigned w64 c.x_first-four.result.first = search rules in
    simp to_z-of_z (step_in_range 6 c.args.from _ _ (omega arith) c.requires.near two.dx_short two.dy_short).0

pub step-one-requires-clause-y_in_range : goal.step-one-requires-clause-y_in_range
step-one-requires-clause-y_in_range g c =
    let two = c.x_first-four.ensures.steps _ c.in_ok-four_by_ends.ensures.four in
    let fits : FitsSigned w64 c.x_first-four.result.second = search rules in
    simp to_z-of_z (step_in_range 6 c.args.from _ _ (omega arith) c.requires.near two.dx_short two.dy_short).1

pub step-two-requires-clause-x_in_range : goal.step-two-requires-clause-x_in_range
step-two-requires-clause-x_in_range g c =
    let four = c.x_first-four.result in
    let two = c.x_first-four.ensures.steps _ c.in_ok-four_by_ends.ensures.four in
    let a_fits : FitsSigned w64 four.first = search rules in
    let b_fits : FitsSigned w64 four.second = search rules in
    let fits : FitsSigned w64 four.third = search rules in
    simp to_z-of_z (second_kept c.args.from _ two c.requires.near (simp to_z-of_z at c.step-one.ensures)).0

pub step-two-requires-clause-y_in_range : goal.step-two-requires-clause-y_in_range
step-two-requires-clause-y_in_range g c =
    let four = c.x_first-four.result in
    let two = c.x_first-four.ensures.steps _ c.in_ok-four_by_ends.ensures.four in
    let a_fits : FitsSigned w64 four.first = search rules in
    let b_fits : FitsSigned w64 four.second = search rules in
    let fits : FitsSigned w64 four.fourth = search rules in
    simp to_z-of_z (second_kept c.args.from _ two c.requires.near (simp to_z-of_z at c.step-one.ensures)).1

pub returns-clause-two : goal.returns-clause-two
returns-clause-two g c =
    let four = c.x_first-four.result in
    let two = c.x_first-four.ensures.steps _ c.in_ok-four_by_ends.ensures.four in
    let a_fits : FitsSigned w64 four.first = search rules in
    let b_fits : FitsSigned w64 four.second = search rules in
    let c_fits : FitsSigned w64 four.third = search rules in
    let d_fits : FitsSigned w64 four.fourth = search rules in
    two_near c.args.from c.step-one.result c.step-two.result two c.requires.near
    (simp to_z-of_z at c.step-one.ensures) (simp to_z-of_z at c.step-two.ensures)

pub returns-clause-onward : goal.returns-clause-onward
returns-clause-onward g c = λ n near.
    let four = c.x_first-four.result in
    let two = c.x_first-four.ensures.steps _ c.in_ok-four_by_ends.ensures.four in
    let a_fits : FitsSigned w64 four.first = search rules in
    let b_fits : FitsSigned w64 four.second = search rules in
    let c_fits : FitsSigned w64 four.third = search rules in
    let d_fits : FitsSigned w64 four.fourth = search rules in
    two_further n c.args.from c.step-one.result c.step-two.result two near
    (simp to_z-of_z at c.step-one.ensures) (simp to_z-of_z at c.step-two.ensures)
