use Rattle.std.proofs.Common.{rules, ◌+◌, ◌≤◌, length, arith}
use Rattle.twkb_body.proofs.InFront.{one_within}
use Rattle.twkb_engine.proofs.Answering.{none_fed, joined, ready_left, few_used, same_stop}
use Rattle.twkb_engine.proofs.engine.Engine.feed_items.Goals as goal

pub loop-used-init : goal.loop-used-init
loop-used-init g c = record { within = omega arith; answer = none_fed }

pub take_some-requires-clause-ready : goal.take_some-requires-clause-ready
take_some-requires-clause-ready g c = ready_left c.loop-used.invariant.answer c.requires

pub returns-in_err-count-clause-answer : goal.returns-in_err-count-clause-answer
returns-in_err-count-clause-answer g c =
    same_stop c.from_residual.ensures.1 (joined c.loop-used.invariant.answer c.in_err-count.ensures.answer)

pub overflow_add-used : goal.overflow_add-used
overflow_add-used g c =
    let l = c.loop-used in
    let few = few_used c.in_ok-count.ends (ready_left l.invariant.answer c.requires) c.in_ok-count.ensures.answer in
    let within : l.used + c.in_ok-count.count ≤ length c.args.piece.now = one_within
    c.args.piece.now l.used c.in_ok-count.count l.invariant.within few in
    search rules

pub returns-then-ends-clause-answer : goal.returns-then-ends-clause-answer
returns-then-ends-clause-answer g c = joined c.loop-used.invariant.answer
    (rw c.if-ends.true at c.in_ok-count.ensures.answer)

pub loop-used-preserved : goal.loop-used-preserved
loop-used-preserved g c =
    let l = c.loop-used in
    let few = few_used c.in_ok-count.ends (ready_left l.invariant.answer c.requires) c.in_ok-count.ensures.answer in
    record {
      within = one_within c.args.piece.now l.used c.in_ok-count.count l.invariant.within few;
      answer = joined l.invariant.answer (rw c.if-ends.false at c.in_ok-count.ensures.answer);
    }
