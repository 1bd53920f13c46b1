use Rattle.std.proofs.Common.{refl, rules, subst, sym, FitsSigned, w64}
use Rattle.std.proofs.lemmas.Int.{to_z-of_z}
use Rattle.twkb_points.specs.Point.{IsInRange}
use Rattle.twkb_points.proofs.PointLemmas.{short_is_near, two_led}
use Rattle.twkb_points.proofs.eight.two_points.Goals as goal

pub moved_near-requires-clause-near_x : goal.moved_near-requires-clause-near_x
moved_near-requires-clause-near_x g c =
    let two = c.x_first-four.ensures.steps _ c.in_ok-four_at.ensures in
    let fits : FitsSigned w64 c.x_first-four.result.first = search rules in
    simp to_z-of_z (short_is_near c.x_first-four.result.first two.dx_short)

pub moved_near-requires-clause-near_y : goal.moved_near-requires-clause-near_y
moved_near-requires-clause-near_y g c =
    let two = c.x_first-four.ensures.steps _ c.in_ok-four_at.ensures in
    let fits : FitsSigned w64 c.x_first-four.result.second = search rules in
    simp to_z-of_z (short_is_near c.x_first-four.result.second two.dy_short)

pub moved_near-requires-2-clause-near_x : goal.moved_near-requires-2-clause-near_x
moved_near-requires-2-clause-near_x g c =
    let two = c.x_first-four.ensures.steps _ c.in_ok-four_at.ensures in
    let fits : FitsSigned w64 c.x_first-four.result.third = search rules in
    simp to_z-of_z (short_is_near c.x_first-four.result.third two.ex_short)

pub moved_near-requires-2-clause-near_y : goal.moved_near-requires-2-clause-near_y
moved_near-requires-2-clause-near_y g c =
    let two = c.x_first-four.ensures.steps _ c.in_ok-four_at.ensures in
    let fits : FitsSigned w64 c.x_first-four.result.fourth = search rules in
    simp to_z-of_z (short_is_near c.x_first-four.result.fourth two.ey_short)

pub returns : goal.returns
returns g c =
    let four = c.x_first-four.result in
    let two = c.x_first-four.ensures.steps _ c.in_ok-four_at.ensures in
    let first = c.in_ok-first in
    let second = c.in_ok-second in
    let a_fits : FitsSigned w64 four.first = search rules in
    let b_fits : FitsSigned w64 four.second = search rules in
    let c_fits : FitsSigned w64 four.third = search rules in
    let d_fits : FitsSigned w64 four.fourth = search rules in
    two_led c.args.from first.first second.second two
    (simp to_z-of_z at first.ensures.value)
    (subst IsInRange (sym first.ensures.value) (first.ensures.range.0 refl))
    (simp to_z-of_z at second.ensures.value)
    (subst IsInRange (sym second.ensures.value) (second.ensures.range.0 refl))
