use Rattle.std.proofs.Common.{rules}
use Rattle.twkb_io.proofs.output.Output.flush.Goals as goal

pub returns-then-self : goal.returns-then-self
returns-then-self g c = search rules

pub returns-then-is_err : goal.returns-then-is_err
returns-then-is_err g c = search rules

pub returns : goal.returns
returns g c = search rules
