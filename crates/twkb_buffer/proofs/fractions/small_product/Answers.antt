use Rattle.std.proofs.Common.{◌-◌, arith}
use Rattle.twkb_buffer.proofs.FractionLemmas.{small_product}
use Rattle.twkb_buffer.proofs.fractions.small_product.Goals as goal

pub returns : goal.returns
returns c =
    small_product c.args.number c.args.factor c.args.places c.args.less (c.args.places - 27 - 1) (c.args.places - 28)
    c.requires.positive c.requires.less (omega arith) (omega arith)
