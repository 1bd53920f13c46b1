use Rattle.std.proofs.Common.{rules}
use Rattle.twkb_num.proofs.groups.Leb128Groups.to_unit.Goals as goal

pub returns-then-more : goal.returns-then-more
returns-then-more c = search rules

pub returns-else-more : goal.returns-else-more
returns-else-more c = search rules
