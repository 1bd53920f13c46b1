use Rattle.twkb_c.proofs.ExportLemmas.{with_options}
use Rattle.twkb_c.proofs.exports.polytwkb_convert.Goals as goal

pub returns-clause-converts : goal.returns-clause-converts
returns-clause-converts c = λ options.
    with_options _ c.args.conversion c.option_limits-limits.result _ c.option_at.result _ _
    c.option_limits-limits.ensures c.option_at.ensures c.convert_within.ensures.converts
