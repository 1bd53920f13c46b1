use Rattle.std.proofs.Common.{rules, arith, refl}
use Rattle.std.proofs.lemmas.Result.{err_from_is_err_and}
use Rattle.twkb_split.proofs.SendingLemmas.{ends_all, misses_row, next_waits, too_many, waiting_cut}
use Rattle.twkb_split.proofs.packed_rest.send_rows.Goals as goal

pub returns-in_err-found : goal.returns-in_err-found
returns-in_err-found g c =
    let p = err_from_is_err_and c.from_residual.result c.from_residual.ensures.1 in
    rw (p.1, p.2) (record {
      sends = λ told first rest_first s. misses_row (c.loop-number.invariant told first rest_first s) _ _
          c.in_err-found.ensures.next;
    })

pub returns-in_err-put_piece : goal.returns-in_err-put_piece
returns-in_err-put_piece g c =
    let p = err_from_is_err_and c.from_residual-in_err-put_piece.result c.from_residual-in_err-put_piece.ensures.1 in
    rw (p.1, p.2) (record {
      sends = λ told first rest_first s. waiting_cut (c.loop-number.invariant told first rest_first s) _ _
          (search rules) (search rules) c.in_err-put_piece.ensures.err;
    })

pub returns-then-not-found : goal.returns-then-not-found
returns-then-not-found g c = record {
  sends = λ told first rest_first s. ends_all (c.loop-number.invariant told first rest_first s) _ _ (search rules)
      (search rules) c.in_ok-put_piece.ensures.blob c.in_ok-put_piece.ensures.row
      c.next_piece.new.csv _ refl (rw c.if-not-found.true at c.in_ok-found.ensures.next);
}

pub loop-number-preserved : goal.loop-number-preserved
loop-number-preserved g c = λ told first rest_first s. next_waits (c.loop-number.invariant told first rest_first s) _ _
    (search rules) (search rules) c.in_ok-put_piece.ensures.blob c.in_ok-put_piece.ensures.row _ _ _ _ _ _ _ refl refl
    (rw c.if-not-found.false at c.in_ok-found.ensures.next) (search rules) (search rules)

pub returns : goal.returns
returns g c = record {
  sends = λ told first rest_first s. too_many (c.loop-number.invariant told first rest_first s)
      (let all = c.loop-number-test.false in omega (arith, all));
}
