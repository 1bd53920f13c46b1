use Rattle.std.proofs.Common.{rules, arith, ap, subst, sym, ◌≡◌, ◌+ℤ◌, None}
use Rattle.std.specs.Prelude.{not}
use Rattle.twkb_points.specs.Point.{IsCoordinate}
use Rattle.twkb_grammar.specs.Fault.{CoordinateRange}
use Rattle.twkb_grammar.specs.Reading.{in_range, unless}
use Rattle.twkb_body.proofs.InFront.{ranges, passes, unzigzag_back}
use Rattle.twkb_engine.proofs.engine.Engine.moved_y.Goals as goal

pub returns-in_default-clause-refused : goal.returns-in_default-clause-refused
returns-in_default-clause-refused c = grind (arith, ranges)

pub returns-clause-free : goal.returns-clause-free
returns-clause-free c =
    let back = unzigzag_back c.unzigzag.result c.args.number c.unzigzag.ensures in
    let fits : IsCoordinate (c.args.self.now.position.y +ℤ c.unzigzag.result) =
    search (rules, c.in-Some.ensures.range.0) in
    subst (λ d. unless (not (in_range (c.args.self.now.position.y +ℤ d))) CoordinateRange None ≡ None)
    (sym back) (ap (λ b. unless (not b) CoordinateRange None) (passes _ fits))
