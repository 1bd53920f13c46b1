use Rattle.std.proofs.Common.{[], None, Some, ap, inr, sym}
use Rattle.twkb_tree.specs.Open.{row_there}
use Rattle.twkb_table.specs.Judged.{Refused}
use Rattle.twkb_table.proofs.Verdicts.{judged_having_precision, precision_in_range-true}
use Rattle.twkb_table.proofs.places.read_precision.Goals as goal

pub returns-in-None-clause-read : goal.returns-in-None-clause-read
returns-in-None-clause-read c l kind id text v judged =
    let precision = c.in-Some.precision in
    let in_range = precision_in_range-true precision c.in-Some.ensures.reads.1 in
    let r = row_there c.args.row_place.now kind id precision [] in
    inr (
      precision,
      c.in-Some.ensures.reads,
      judged_having_precision l c.args.row_place.now r text v None
          in_range (c.in-None.ensures r (sym c.is_some.ensures) in_range) judged,
    )

pub returns-in-Some-precision_refusal-clause-refused : goal.returns-in-Some-precision_refusal-clause-refused
returns-in-Some-precision_refusal-clause-refused c l kind id text =
    let precision = c.in-Some.precision in
    let in_range = precision_in_range-true precision c.in-Some.ensures.reads.1 in
    let r = row_there c.args.row_place.now kind id precision [] in
    inr (
      precision,
      c.in-Some.ensures.reads,
      judged_having_precision l c.args.row_place.now r text _
          (Some c.in-Some-precision_refusal.refusal) in_range
          (c.in-Some-precision_refusal.ensures r (sym c.is_some.ensures) in_range)
          (ap Refused c.reason_of.ensures),
    )
