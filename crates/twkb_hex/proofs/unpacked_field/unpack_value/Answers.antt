use Rattle.std.proofs.Common.{arith}
use Rattle.std.proofs.lemmas.Result.{err_from_is_err_and}
use Rattle.twkb_hex.proofs.BlobLemmas.{line_refused, more_refused, some_rows, unpacked_to}
use Rattle.twkb_hex.proofs.unpacked_field.unpack_value.Goals as goal

pub put_line-requires : goal.put_line-requires
put_line-requires c = some_rows c.in_ok-used.ensures.ok

pub returns-in_err-put_line-clause-err : goal.returns-in_err-put_line-clause-err
returns-in_err-put_line-clause-err c =
    let p = err_from_is_err_and c.from_residual-in_err-put_line.result c.from_residual-in_err-put_line.ensures.1 in
    rw (p.1, p.2) (line_refused c.args.limits.now c.args.field.now _
    (rw c.digits_in.ensures at c.in_ok-decode.ensures.ok) _ _ (rw c.deref.ensures.value at c.in_ok-used.ensures.ok) _
    c.in_err-put_line.ensures.err)

pub returns-then-used-len-clause-err : goal.returns-then-used-len-clause-err
returns-then-used-len-clause-err c = more_refused c.args.limits.now c.args.field.now _
    (rw c.digits_in.ensures at c.in_ok-decode.ensures.ok) _ _ (rw c.deref.ensures.value at c.in_ok-used.ensures.ok) _
    c.in_ok-put_line.ensures.ok (let more = c.if-used-len.true in omega (arith, more, c.len.ensures))

pub returns-clause-ok : goal.returns-clause-ok
returns-clause-ok c = unpacked_to c.args.limits.now c.args.field.now _
    (rw c.digits_in.ensures at c.in_ok-decode.ensures.ok) _ _ (rw c.deref.ensures.value at c.in_ok-used.ensures.ok) _
    c.in_ok-put_line.ensures.ok (let all = c.if-used-len.false in omega (arith, all, c.len.ensures))
