use Rattle.std.proofs.Common.{ap, None, Some}
use Rattle.std.proofs.lemmas.Result.{err_from_is_err_and}
use Rattle.twkb_table.specs.Judged.{Refused}
use Rattle.twkb_table.proofs.Verdicts.{judged_place}
use Rattle.twkb_table.proofs.record_verdict.judge_at.Goals as goal

pub returns-in-Some : goal.returns-in-Some
returns-in-Some c = judged_place c.args.limits.now c.args.row_place.now c.args.kind _ _ _ _
    (Some c.in-Some.refusal) c.in-Some.ensures (ap Refused c.reason_of.ensures)

pub returns-in_err-id : goal.returns-in_err-id
returns-in_err-id c =
    let p = err_from_is_err_and c.from_residual.result c.from_residual.ensures.1 in
    rw (p.1, p.2) (judged_place c.args.limits.now c.args.row_place.now c.args.kind _ _ _ _ None
    c.in_default.ensures
    (c.in_err-id.ensures.refused c.args.limits.now c.args.precision_field.now c.args.text.now))

pub returns-in_err-precision : goal.returns-in_err-precision
returns-in_err-precision c =
    let p = err_from_is_err_and c.from_residual-in_err-precision.result
    c.from_residual-in_err-precision.ensures.1 in
    rw (p.1, p.2) (judged_place c.args.limits.now c.args.row_place.now c.args.kind _ _ _ _ None
    c.in_default.ensures (c.in_ok-id.ensures.read c.args.limits.now _ _ _
    (c.in_err-precision.ensures.refused c.args.limits.now c.args.kind c.in_ok-id.id c.args.text.now)))

pub returns : goal.returns
returns c v j = judged_place c.args.limits.now c.args.row_place.now c.args.kind _ _ _ v None
    c.in_default.ensures (c.in_ok-id.ensures.read c.args.limits.now _ _ v
    (c.in_ok-precision.ensures.read c.args.limits.now c.args.kind c.in_ok-id.id c.args.text.now v j))
