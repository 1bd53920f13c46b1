use Rattle.std.proofs.Common.{rules, arith, refl}
use Rattle.std.proofs.lemmas.Result.{err_from_is_err_and}
use Rattle.twkb_rest.proofs.JoinLemmas.{joined_cut, joins_all, misses_joined, sent_more, too_many}
use Rattle.twkb_rest.proofs.joined_rest.send_rows.Goals as goal

pub returns-in_err-next_joined : goal.returns-in_err-next_joined
returns-in_err-next_joined g c =
    let p = err_from_is_err_and c.from_residual.result c.from_residual.ensures.1 in
    rw (p.1, p.2) (record {
      sends = λ name told first s. misses_joined (c.loop-number.invariant.1 name told first s) _ _
          c.in_err-next_joined.ensures.next;
    })

pub returns-then-not-branch : goal.returns-then-not-branch
returns-then-not-branch g c =
    let ended = rw c.if-not-branch.true at c.in_ok-next_joined.ensures.next in
    record {
      sends = λ name told first s. joins_all (c.loop-number.invariant.1 name told first s) c.next_joined.new.csv
          ended.0 ended.1;
    }

pub returns-in_err-put : goal.returns-in_err-put
returns-in_err-put g c =
    let p = err_from_is_err_and c.from_residual-in_err-put.result c.from_residual-in_err-put.ensures.1 in
    let one = rw c.if-not-branch.false at c.in_ok-next_joined.ensures.next in
    rw (p.1, p.2) (record {
      sends = λ name told first s. joined_cut (c.loop-number.invariant.1 name told first s) one _ (search rules)
          c.in_err-put.ensures.err;
    })

pub loop-number-preserved : goal.loop-number-preserved
loop-number-preserved g c =
    let one = rw c.if-not-branch.false at c.in_ok-next_joined.ensures.next in (
      one.blob.between,
      λ name told first s. sent_more (c.loop-number.invariant.1 name told first s) one _ (search rules)
          c.in_ok-put.ensures.ok _ _ _ refl refl c.offset.ensures,
    )

pub returns : goal.returns
returns g c = rw c.stream_cause.ensures (record {
  sends = λ name told first s. too_many (c.loop-number.invariant.1 name told first s)
      (let all = c.loop-number-test.false in omega (arith, all));
})
