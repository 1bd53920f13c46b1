use Rattle.std.proofs.Common.{rules, ◌≡◌, ◌∙◌, ap, subst, refl, true, SFits, w64}
use Rattle.std.specs.Prelude.{◌+ℤ◌}
use Rattle.std.proofs.lemmas.Int.{to_z-of_z}
use Rattle.twkb_points.specs.Point.{point_at}
use Rattle.twkb_grammar.specs.Reading.{in_range}
use Rattle.twkb_body.proofs.InFront.{two_numbers, passes}
use Rattle.twkb_body.proofs.points.long_point.Goals as goal

pub returns : goal.returns
returns c =
    let x_fits : SFits w64 c.unzigzag.result = search rules in
    let y_fits : SFits w64 c.unzigzag-2.result = search rules in
    let from = c.args.from in
    let beside = c.in_ok-beside.beside in
    let x = c.in-Complete in
    let y = c.in-Complete-long_number in
    two_numbers from beside c.in_ok-to.to c.args.bytes.now x.x y.y x.x_length y.y_length
    c.unzigzag.result c.unzigzag-2.result x.ensures y.ensures c.unzigzag.ensures c.unzigzag-2.ensures
    (subst (λ d. in_range (from.x +ℤ d) ≡ true) (to_z-of_z w64 c.unzigzag.result x_fits)
    (passes _ (c.in_ok-beside.ensures.range.0 refl)))
    (c.in_ok-beside.ensures.moved ∙ ap (λ d. point_at (from.x +ℤ d) from.y) (to_z-of_z w64 c.unzigzag.result x_fits))
    (subst (λ d. in_range (beside.y +ℤ d) ≡ true) (to_z-of_z w64 c.unzigzag-2.result y_fits)
    (passes _ (c.in_ok-to.ensures.range.0 refl)))
    (c.in_ok-to.ensures.moved ∙ ap (λ d. point_at beside.x (beside.y +ℤ d)) (to_z-of_z w64 c.unzigzag-2.result y_fits))
