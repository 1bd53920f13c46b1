use Rattle.std.proofs.Common.{rules, arith, ap, Err}
use Rattle.std.proofs.lemmas.Result.{err_from_is_err_and}
use Rattle.twkb_hex.proofs.SendingLemmas.{ends_sent, misses_row, next_cut, next_sent, too_many}
use Rattle.twkb_hex.proofs.unpacked_records.send_rows.Goals as goal

pub returns-in_err-next_row : goal.returns-in_err-next_row
returns-in_err-next_row g c =
    let p = err_from_is_err_and c.from_residual.result c.from_residual.ensures.1 in
    rw (p.1, p.2) (record {
      sends = λ told first s. misses_row (c.loop-number.invariant told first s) _ _ c.in_err-next_row.ensures.next;
    })

pub returns-in_err-put : goal.returns-in_err-put
returns-in_err-put g c =
    let p = err_from_is_err_and c.from_residual-in_err-put.result c.from_residual-in_err-put.ensures.1 in
    rw (p.1, p.2) (record {
      sends = λ told first s. next_cut (c.loop-number.invariant told first s)
          (rw c.if-not-branch.false at c.in_ok-next_row.ensures.next) _ (search rules)
          c.in_err-put.ensures.cut (λ far. (c.in_err-put.ensures.untouched (ap (λ f. Err f) far)).1);
    })

pub returns-then-not-branch : goal.returns-then-not-branch
returns-then-not-branch g c = record {
  sends = λ told first s. ends_sent (c.loop-number.invariant told first s) c.next_row.new.csv
      (rw c.if-not-branch.true at c.in_ok-next_row.ensures.next);
}

pub loop-number-preserved : goal.loop-number-preserved
loop-number-preserved g c = λ told first s. next_sent (c.loop-number.invariant told first s)
    (rw c.if-not-branch.false at c.in_ok-next_row.ensures.next) _ (search rules)
    c.in_ok-put.ensures.ok _ (search rules)

pub returns : goal.returns
returns g c = record {
  sends = λ told first s. too_many (c.loop-number.invariant told first s)
      (let all = c.loop-number-test.false in omega (arith, all));
}
