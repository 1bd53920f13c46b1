use Rattle.std.proofs.Common.{rules}
use Rattle.twkb_buffer.proofs.fractions.rounded_quotient.Goals as goal

pub returns : goal.returns
returns c = search rules
