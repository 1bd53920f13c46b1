use Rattle.twkb_engine.specs.Standing.{offset_in}
use Rattle.twkb_blob.proofs.fault.judge_end.Goals as goal

pub returns-then-is_between-clause-end : goal.returns-then-is_between-clause-end
returns-then-is_between-clause-end c = λ bs rs s. rw c.if-is_between.true at (c.is_between.ensures.ended bs rs s)

pub returns-clause-end : goal.returns-clause-end
returns-clause-end c = λ bs rs s. rw c.fault_at.ensures (
  offset_in c.args.engine.now,
  rw c.if-is_between.false at (c.is_between.ensures.ended bs rs s),
  c.offset.ensures,
)
