use Rattle.twkb_features.proofs.TakenLemmas.{takes_none, takes_rest, takes_as, found}
use Rattle.twkb_features.proofs.nesting.Nesting.find_close.Goals as goal

pub loop-at-init : goal.loop-at-init
loop-at-init c = takes_none c.args.self.now c.args.depth c.args.bytes.now

pub returns-then-few-clause-first : goal.returns-then-few-clause-first
returns-then-few-clause-first c =
    let all = takes_rest (takes_rest c.loop-at.invariant c.take_blocks-skipped.ensures) c.take_few-few.ensures.taken in
    found (takes_as all c.if-few.true)

pub returns-then-few-clause-taken : goal.returns-then-few-clause-taken
returns-then-few-clause-taken c =
    (takes_rest (takes_rest c.loop-at.invariant c.take_blocks-skipped.ensures) c.take_few-few.ensures.taken).taken

pub loop-at-preserved : goal.loop-at-preserved
loop-at-preserved c =
    let all = takes_rest (takes_rest c.loop-at.invariant c.take_blocks-skipped.ensures) c.take_few-few.ensures.taken in
    takes_as all c.if-few.false
