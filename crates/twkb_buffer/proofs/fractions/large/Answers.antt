use Rattle.std.proofs.Common.{arith, refl, ◌/◌}
use Rattle.std.proofs.lemmas.Nat.{le-div}
use Rattle.twkb_points.specs.declared.point.TheConstants.{COORDINATE_BOUND}
use Rattle.twkb_buffer.proofs.FractionLemmas.{IsNearest-product, far_product}
use Rattle.twkb_buffer.proofs.fractions.large.Goals as goal

pub returns-then-whole-factor : goal.returns-then-whole-factor
returns-then-whole-factor c =
    far_product c.args.number c.args.factor c.args.divisor c.args.less c.requires.positive c.requires.less
    (λ fits. omega (arith, le-div (c.args.number / c.args.divisor) COORDINATE_BOUND c.args.factor c.requires.some fits))

pub returns : goal.returns
returns c =
    IsNearest-product c.args.number c.args.factor c.args.divisor c.args.less _ c.rounded_quotient.result
    refl c.rounded_quotient.ensures
