use Rattle.std.proofs.Common.{◌-◌, arith}
use Rattle.twkb_buffer.proofs.FractionLemmas.{FindsNearest-whole, beyond_product, power_fits, tiny_product}
use Rattle.twkb_buffer.proofs.fractions.multiplied.Goals as goal

pub returns-then-exponent : goal.returns-then-exponent
returns-then-exponent c =
    tiny_product c.args.number c.args.factor c.args.exponent c.args.less c.requires.number c.requires.factor
    (omega arith) (omega arith)

pub large-requires-clause-divisor : goal.large-requires-clause-divisor
large-requires-clause-divisor c = power_fits (1075 - c.args.exponent) (omega arith)

pub returns-then-exponent-3 : goal.returns-then-exponent-3
returns-then-exponent-3 c =
    beyond_product c.args.number c.args.factor c.args.exponent c.args.less (c.requires.leading (omega arith))
    c.requires.positive (omega arith) (omega arith)

pub returns : goal.returns
returns c =
    FindsNearest-whole c.args.number c.args.factor c.args.exponent c.args.less c.large-2.result c.requires.factor
    (omega arith) (omega arith) c.large-2.ensures
