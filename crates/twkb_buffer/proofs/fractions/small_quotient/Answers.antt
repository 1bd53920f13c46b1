use Rattle.std.proofs.Common.{◌-◌, arith, refl}
use Rattle.twkb_buffer.proofs.FractionLemmas.{small_quotient}
use Rattle.twkb_buffer.proofs.fractions.small_quotient.Goals as goal

pub returns : goal.returns
returns c =
    small_quotient c.args.number c.args.divisor c.args.places c.args.less (c.args.places - 1) (c.args.places - 1)
    c.requires.positive c.requires.less (omega arith) refl
