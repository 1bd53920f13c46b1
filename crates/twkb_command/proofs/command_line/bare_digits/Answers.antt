use Rattle.std.proofs.Common.{◌∙◌, ap, refl}
use Rattle.std.proofs.lemmas.Result.{IfOk-weaker}
use Rattle.clap.specs.declared.builder.arg.Arg.{Arg}
use Rattle.twkb_command.proofs.AliasLemmas.{aliased, renamed}
use Rattle.twkb_command.proofs.command_line.bare_digits.Goals as goal

pub returns : goal.returns
returns c =
    let named = renamed c.flag-bare.result c.long.result _ _ c.flag-bare.ensures.rule c.long.ensures in
    IfOk-weaker c.alias.result _ _
    (λ made adds. (
      aliased c.long.result made _ _ named refl adds,
      ap (λ (a : Arg). a.global) adds.0 ∙ (ap (λ (a : Arg). a.global) c.long.ensures ∙ c.flag-bare.ensures.local),
    ))
    c.alias.ensures
