use Rattle.std.proofs.Common.{◌∙◌, ap, codes}
use Rattle.std.proofs.lemmas.Result.{IfOk-weaker}
use Rattle.clap.specs.Words.{App, with_rule}
use Rattle.twkb_command.specs.Arguments.{text_option}
use Rattle.twkb_command.proofs.command_line.with_field_options.Goals as goal

pub returns-clause-app : goal.returns-clause-app
returns-clause-app c =
    IfOk-weaker c.with_text_option.result _ _
    (λ made is. is ∙ ap (λ (a : App). with_rule a (text_option (codes "delimiter"))) c.in_ok-command.ensures.app)
    c.with_text_option.ensures.app
