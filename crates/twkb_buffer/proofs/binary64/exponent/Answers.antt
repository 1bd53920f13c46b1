use Rattle.std.proofs.Common.{rules}
use Rattle.twkb_buffer.proofs.binary64.exponent.Goals as goal

pub returns-clause-value : goal.returns-clause-value
returns-clause-value c = search rules
