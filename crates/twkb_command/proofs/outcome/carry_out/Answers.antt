use Rattle.std.proofs.Common.{rules}
use Rattle.twkb_command.proofs.outcome.carry_out.Goals as goal

pub returns-in-Err : goal.returns-in-Err
returns-in-Err g c = search rules
