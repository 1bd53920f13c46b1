use Rattle.twkb_table.proofs.RowReaderLemmas.{judged_by}
use Rattle.std.proofs.Common.{subst}
use Rattle.twkb_table.specs.Judged.{Judged}
use Rattle.twkb_table.proofs.record_verdict.judge_head.Goals as goal

pub returns : goal.returns
returns c = judged_by _ _ c.judge_fields.result (λ v j before stands.
    subst (λ fields. Judged c.args.limits.now before fields v) c.five_fields-fields.ensures.value
    (j before stands)) c.judge_fields.ensures
