use Rattle.std.proofs.Common.{◌∙◌, ap, codes}
use Rattle.std.proofs.lemmas.Result.{IfOk-weaker}
use Rattle.clap.specs.Words.{App, with_rule}
use Rattle.twkb_command.specs.Arguments.{flag}
use Rattle.twkb_command.proofs.command_line.with_geojson.Goals as goal

pub returns-clause-app : goal.returns-clause-app
returns-clause-app c =
    IfOk-weaker c.with_flag-2.result _ _
    (λ made is. is ∙ ap (λ (a : App). with_rule a (flag (codes "collection"))) c.in_ok-command.ensures.app)
    c.with_flag-2.ensures.app
