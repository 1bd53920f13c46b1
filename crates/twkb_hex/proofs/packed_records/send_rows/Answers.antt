use Rattle.std.proofs.Common.{rules, arith, refl, ap, Err}
use Rattle.std.proofs.lemmas.Result.{err_from_is_err_and}
use Rattle.twkb_hex.proofs.SendingLemmas.{ends_all, misses_row, next_waits, too_many, waiting_cut}
use Rattle.twkb_hex.proofs.packed_records.send_rows.Goals as goal

pub returns-in_err-found : goal.returns-in_err-found
returns-in_err-found g c =
    let p = err_from_is_err_and c.from_residual.result c.from_residual.ensures.1 in
    rw (p.1, p.2) (record {
      sends = λ told first s. misses_row (c.loop-number.invariant told first s) _ _ c.in_err-found.ensures.next;
    })

pub returns-in_err-put : goal.returns-in_err-put
returns-in_err-put g c =
    let p = err_from_is_err_and c.from_residual-in_err-put.result c.from_residual-in_err-put.ensures.1 in
    rw (p.1, p.2) (record {
      sends = λ told first s. waiting_cut (c.loop-number.invariant told first s) _ (search rules)
          c.in_err-put.ensures.cut (λ far. (c.in_err-put.ensures.untouched (ap (λ f. Err f) far)).1);
    })

pub returns-then-not-found : goal.returns-then-not-found
returns-then-not-found g c = record {
  sends = λ told first s. ends_all (c.loop-number.invariant told first s) _ (search rules) c.in_ok-put.ensures.ok
      c.next_row.new.csv _ refl (rw c.if-not-found.true at c.in_ok-found.ensures.next);
}

pub loop-number-preserved : goal.loop-number-preserved
loop-number-preserved g c = λ told first s. next_waits (c.loop-number.invariant told first s) _ (search rules)
    c.in_ok-put.ensures.ok _ _ _ refl _ _ _ _ refl refl (rw c.if-not-found.false at c.in_ok-found.ensures.next)
    (search rules)

pub returns : goal.returns
returns g c = record {
  sends = λ told first s. too_many (c.loop-number.invariant told first s)
      (let all = c.loop-number-test.false in omega (arith, all));
}
