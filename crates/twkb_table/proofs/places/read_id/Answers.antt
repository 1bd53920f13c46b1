use Rattle.std.proofs.Common.{[], None, Some, ap, inr, refl, sym}
use Rattle.twkb_tree.specs.Open.{row_there}
use Rattle.twkb_tree.proofs.RowForest.{id_in_range-true}
use Rattle.twkb_table.specs.Judged.{Refused}
use Rattle.twkb_table.proofs.Verdicts.{judged_having_id}
use Rattle.twkb_table.proofs.places.read_id.Goals as goal

pub returns-in-None-clause-read : goal.returns-in-None-clause-read
returns-in-None-clause-read c l precision_field text v judged =
    let id = c.in-Some.id in
    let in_range = id_in_range-true id c.in-Some.ensures.reads.1 in
    let r = row_there c.args.row_place.now c.args.kind id None [] in
    inr (
      id,
      c.in-Some.ensures.reads,
      judged_having_id l c.args.row_place.now r precision_field text v None
          in_range (c.in-None.ensures r refl (sym c.is_some.ensures) in_range) judged,
    )

pub returns-in-Some-id_refusal-clause-refused : goal.returns-in-Some-id_refusal-clause-refused
returns-in-Some-id_refusal-clause-refused c l precision_field text =
    let id = c.in-Some.id in
    let in_range = id_in_range-true id c.in-Some.ensures.reads.1 in
    let r = row_there c.args.row_place.now c.args.kind id None [] in
    inr (
      id,
      c.in-Some.ensures.reads,
      judged_having_id l c.args.row_place.now r precision_field text _
          (Some c.in-Some-id_refusal.refusal) in_range
          (c.in-Some-id_refusal.ensures r refl (sym c.is_some.ensures) in_range)
          (ap Refused c.reason_of.ensures),
    )
