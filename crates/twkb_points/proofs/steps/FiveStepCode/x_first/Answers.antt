use Rattle.std.proofs.Common.{rules, FitsSigned, w64}
use Rattle.std.proofs.lemmas.Int.{to_z-of_z}
use Rattle.twkb_points.proofs.PointLemmas.{characters_in_front}
use Rattle.twkb_points.proofs.steps.FiveStepCode.x_first.Goals as goal

pub returns-clause-steps : goal.returns-clause-steps
returns-clause-steps c = λ bytes found.
    let a_fits : FitsSigned w64 c.args.four.first = search rules in
    let b_fits : FitsSigned w64 c.args.four.second = search rules in
    let c_fits : FitsSigned w64 c.args.four.third = search rules in
    let d_fits : FitsSigned w64 c.args.four.fourth = search rules in
    simp to_z-of_z (characters_in_front bytes c.args.four found)
