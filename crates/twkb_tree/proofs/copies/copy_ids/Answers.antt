use Rattle.std.proofs.Common.{rules}
use Rattle.twkb_tree.proofs.copies.copy_ids.Goals as goal

pub returns-in_ok-copy-in-Some : goal.returns-in_ok-copy-in-Some
returns-in_ok-copy-in-Some c = search rules
