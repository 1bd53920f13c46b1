use Rattle.twkb_table.proofs.RowReaderLemmas.{bad_kind, bad_place, judged_of, judged_by}
use Rattle.twkb_table.proofs.record_verdict.judge_fields.Goals as goal

pub returns-in_default-parse_kind : goal.returns-in_default-parse_kind
returns-in_default-parse_kind c =
    λ before stands. bad_kind c.args.limits.now before _ _ _ _ _ c.in-Some.depth
    c.in-Some.ensures.reads c.in_default-parse_kind.ensures.reads

pub returns-in_default-at : goal.returns-in_default-at
returns-in_default-at c =
    λ before stands. bad_place c.args.limits.now before c.args.rows.now c.args.nodes c.args.points_before _ _
    _ _ _ c.in-Some.depth c.in-Some-parse_kind.kind c.in-Some.ensures.reads
    c.in-Some-parse_kind.ensures.reads c.in_default-at.ensures.stands stands

pub returns : goal.returns
returns c = judged_by _ _ c.judge_at.result (λ v j before stands.
    judged_of c.args.limits.now before c.args.rows.now c.args.nodes c.args.points_before _ _ _ _ _
    c.in-Some.depth c.in-Some-parse_kind.kind c.in-Some-at.row_place v c.in-Some.ensures.reads
    c.in-Some-parse_kind.ensures.reads c.in-Some-at.ensures.stands j stands) c.judge_at.ensures
