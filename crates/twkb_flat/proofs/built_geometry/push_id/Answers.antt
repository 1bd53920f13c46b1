use Rattle.std.proofs.Common.{rules}
use Rattle.twkb_flat.proofs.built_geometry.push_id.Goals as goal

pub returns-in_ok-push : goal.returns-in_ok-push
returns-in_ok-push c = search rules
