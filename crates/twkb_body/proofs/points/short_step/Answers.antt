use Rattle.std.proofs.Common.{arith, rules, SFits, w64}
use Rattle.std.proofs.lemmas.Int.{to_z-of_z}
use Rattle.twkb_body.proofs.InFront.{small_step}
use Rattle.twkb_body.proofs.points.short_step.Goals as goal

pub returns-clause-near : goal.returns-clause-near
returns-clause-near c =
    let fits : SFits w64 c.unzigzag.result = search rules in
    simp to_z-of_z (small_step c.unzigzag.result (omega (arith, c.unzigzag.ensures, c.requires)))
