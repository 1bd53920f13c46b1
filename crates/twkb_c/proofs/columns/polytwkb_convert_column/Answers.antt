use Rattle.std.proofs.Common.{refl, rules}
use Rattle.twkb_c.proofs.CallLemmas.{AsksNothing, asked_nothing}
use Rattle.twkb_c.proofs.columns.polytwkb_convert_column.Goals as goal

pub returns-in_default : goal.returns-in_default
returns-in_default c =
    let lacks : AsksNothing c.args.conversion c.args.options.now = c.in_default.ensures.none (search rules) in
    asked_nothing c.args.conversion c.args.options.now c.args.input.now c.args.words.now c.args.output.now
    c.args.output.now c.refused_arguments.result lacks
    (record { report_is = c.refused_arguments.ensures; same = refl })
