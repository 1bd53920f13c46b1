use Rattle.std.proofs.Common.{rules}
use Rattle.twkb_writer.proofs.header.has_no_body.Goals as goal

pub returns-then-points-eq0 : goal.returns-then-points-eq0
returns-then-points-eq0 c = search rules
