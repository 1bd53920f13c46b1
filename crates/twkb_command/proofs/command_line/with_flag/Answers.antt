use Rattle.std.proofs.Common.{◌∙◌, ap}
use Rattle.std.proofs.lemmas.Result.{IfOk-weaker}
use Rattle.clap.specs.Words.{Rule, app_of, with_rule}
use Rattle.twkb_command.proofs.command_line.with_flag.Goals as goal

pub returns-clause-app : goal.returns-clause-app
returns-clause-app c =
    IfOk-weaker c.arg.result _ _
    (λ made adds. adds.shape c.flag.ensures.local
    ∙ ap (λ (r : Rule). with_rule (app_of c.args.command) r) c.flag.ensures.rule)
    c.arg.ensures
