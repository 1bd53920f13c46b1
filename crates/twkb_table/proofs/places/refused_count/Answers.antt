use Rattle.std.proofs.Common.{None, Some, ap, refl}
use Rattle.twkb_tree.specs.Open.{row_of, row_there}
use Rattle.twkb_tree.specs.Refusal.{count_checks}
use Rattle.twkb_table.specs.Judged.{Refused}
use Rattle.twkb_table.proofs.Verdicts.{judged_first}
use Rattle.twkb_table.proofs.places.refused_count.Goals as goal

pub returns-in_err-count_refusal : goal.returns-in_err-count_refusal
returns-in_err-count_refusal c = record {
  judged = λ points many. rw c.from_residual.ensures (λ id precision.
      let r = row_there c.args.row_place.now c.args.kind id precision points in
      judged_first _ (count_checks (row_of c.args.row_place.now.parent) r) _ None
      (c.in_err-count_refusal.ensures r refl many) refl);
}

pub returns : goal.returns
returns c = record {
  judged = λ points many id precision.
      let r = row_there c.args.row_place.now c.args.kind id precision points in
      judged_first _ (count_checks (row_of c.args.row_place.now.parent) r) _
      (Some c.in_ok-count_refusal.field-0)
      (c.in_ok-count_refusal.ensures r refl many) (ap Refused c.reason_of.ensures);
}
