use Rattle.std.proofs.Common.{rules}
use Rattle.twkb_tree.proofs.row_rules.has_same_ids.Goals as goal

pub returns-in-Some-child_ids : goal.returns-in-Some-child_ids
returns-in-Some-child_ids c = search rules
