use Rattle.std.proofs.Common.{rules}
use Rattle.twkb_command.proofs.command_line.max_nest_option.Goals as goal

pub returns-clause-rule : goal.returns-clause-rule
returns-clause-rule c = search rules
