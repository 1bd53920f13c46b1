use Rattle.std.proofs.Common.{rules}
use Rattle.twkb_buffer.proofs.lengths.whole_length.Goals as goal

pub returns-in_default : goal.returns-in_default
returns-in_default c = search rules
