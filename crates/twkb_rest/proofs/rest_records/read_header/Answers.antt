use Rattle.std.proofs.Common.{rules}
use Rattle.std.proofs.lemmas.Result.{err_from_is_err_and}
use Rattle.twkb_rest.proofs.RowLemmas.{header_found, header_refused, header_short}
use Rattle.twkb_rest.proofs.rest_records.read_header.Goals as goal

pub returns-in-Err-clause-err : goal.returns-in-Err-clause-err
returns-in-Err-clause-err g c = header_refused g.Q.Read.remaining _ _ _ _
    (rw c.if-not-found.false at c.in-Ok.ensures) c.args.name.now _ (search rules) c.in-Err.ensures.err

pub returns-in_err-put_row-clause-err : goal.returns-in_err-put_row-clause-err
returns-in_err-put_row-clause-err g c =
    let p = err_from_is_err_and c.from_residual.result c.from_residual.ensures.1 in
    rw (p.1, p.2) (header_short g.Q.Read.remaining _ _ _ _
    (rw c.if-not-found.false at c.in-Ok.ensures) c.args.name.now c.in_err-put_row.ensures.err)

pub returns-clause-ok : goal.returns-clause-ok
returns-clause-ok g c = header_found c.args.name.now c.args.delimiter g.Q.Read.remaining _ _ _ _ _ _
    (rw c.if-not-found.false at c.in-Ok.ensures) (search rules) c.len-width.ensures (search rules)
