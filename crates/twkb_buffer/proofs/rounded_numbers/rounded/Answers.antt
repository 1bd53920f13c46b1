use Rattle.std.proofs.Common.{rules}
use Rattle.twkb_buffer.proofs.rounded_numbers.rounded.Goals as goal

pub returns : goal.returns
returns c = search rules
