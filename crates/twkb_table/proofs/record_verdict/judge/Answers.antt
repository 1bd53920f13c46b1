use Rattle.std.proofs.Common.{subst}
use Rattle.std.proofs.lemmas.Result.{err_from_is_err_and}
use Rattle.csv.specs.Records.{fields_of}
use Rattle.twkb_table.specs.Judged.{Accepted, Refused, Judged}
use Rattle.twkb_table.proofs.RowReaderLemmas.{given_row, if_refused}
use Rattle.twkb_table.proofs.record_verdict.judge.Goals as goal

pub returns-in_err-append_to-clause-refused : goal.returns-in_err-append_to-clause-refused
returns-in_err-append_to-clause-refused c =
    let p = err_from_is_err_and c.from_residual.result c.from_residual.ensures.1 in
    rw (p.1, p.2) (if_refused _ _ _ (λ reason j. c.in-Ok.ensures (Refused reason) j)
    c.in_err-append_to.ensures.refused)

pub returns-clause-read : goal.returns-clause-read
returns-clause-read c before stands =
    let own = c.in_ok-append_to.ensures.given in
    subst (λ r. Judged c.args.limits.now before (fields_of c.args.csv_record.now) (Accepted r))
    (given_row c.in-Ok.head c.row.result c.clear.new.self.items c.append_to.new.points.items
    own.0 c.row.ensures c.clear.ensures.items own.1)
    (c.in-Ok.ensures _ own.2 before stands)
