use Rattle.std.proofs.Common.{arith}
use Rattle.twkb_buffer.specs.RoundedNumbers.{divisor_of, factor_of}
use Rattle.twkb_buffer.proofs.RoundingLemmas.{FindsUnit-size}
use Rattle.twkb_buffer.proofs.rounded_numbers.unit_of.Goals as goal

pub returns : goal.returns
returns c =
    FindsUnit-size (factor_of c.args.scale) (divisor_of c.args.scale) c.args.number c.in_ok-size.size
    c.with_sign.result (omega arith) c.in_ok-size.ensures c.with_sign.ensures
