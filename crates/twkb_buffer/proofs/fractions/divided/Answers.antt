use Rattle.std.proofs.Common.{◌-◌, arith}
use Rattle.twkb_buffer.proofs.FractionLemmas.{beyond_quotient, scaled_fits, tiny_quotient}
use Rattle.twkb_buffer.proofs.fractions.divided.Goals as goal

pub returns-then-exponent : goal.returns-then-exponent
returns-then-exponent c =
    tiny_quotient c.args.number c.args.divisor c.args.exponent c.args.less c.requires.number c.requires.positive
    (omega arith) (omega arith)

pub returns-then-exponent-2 : goal.returns-then-exponent-2
returns-then-exponent-2 c =
    beyond_quotient c.args.number c.args.divisor c.args.exponent c.args.less (c.requires.leading (omega arith))
    c.requires.positive c.requires.divisor (omega arith) (omega arith)

pub large-requires-clause-small : goal.large-requires-clause-small
large-requires-clause-small c =
    scaled_fits (c.args.exponent - 1075) c.args.divisor (omega arith) c.requires.divisor
