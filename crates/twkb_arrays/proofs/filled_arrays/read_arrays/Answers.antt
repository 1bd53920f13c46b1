use Rattle.std.proofs.Common.{[], arith, subst, take}
use Rattle.twkb_tree.specs.Limits.{Allowance}
use Rattle.twkb_blob.specs.Sessions.{session_limits}
use Rattle.twkb_arrays.specs.FilledArrays.{ReadsArrays, ReadsWithinRoom}
use Rattle.twkb_arrays.proofs.ReadingLemmas.{reads_all, reads_within}
use Rattle.twkb_arrays.proofs.filled_arrays.read_arrays.Goals as goal

pub read_all-answer-requires-clause-new : goal.read_all-answer-requires-clause-new
read_all-answer-requires-clause-new c = (
  [],
  [],
  c.new-session.ensures.stands,
  c.nothing-taken.ensures (session_limits c.new-session.result) [] c.args.rows.now c.args.points.now
      c.args.ends.now,
)

pub read_all-answer-requires-clause-none : goal.read_all-answer-requires-clause-none
read_all-answer-requires-clause-none c =
    let h = c.nothing-taken.ensures c.args.limits [] c.args.rows.now c.args.points.now c.args.ends.now in
    omega (arith, h.fit.passed_is)

pub returns-clause-reads : goal.returns-clause-reads
returns-clause-reads c = λ never.
    let r = c.read_all-answer.ensures in
    subst (λ (l : Allowance). ReadsArrays l c.args.blobs.now c.args.rows.now c.args.points.now c.args.ends.now
    c.read_all-answer.new.row_array c.read_all-answer.new.point_array c.read_all-answer.new.ends c.counted.result)
    c.new-session.ensures.limits
    (reads_all r (c.counted.ensures (session_limits c.new-session.result) (take r.count c.args.blobs.now)
    c.args.rows.now _ c.args.points.now _ c.args.ends.now _ r.given r.later r.has_taken) never)

pub returns-clause-within_room : goal.returns-clause-within_room
returns-clause-within_room c = λ may.
    let r = c.read_all-answer.ensures in
    subst (λ (l : Allowance). ReadsWithinRoom l c.args.blobs.now c.args.rows.now c.args.points.now
    c.args.ends.now c.read_all-answer.new.row_array c.read_all-answer.new.point_array c.read_all-answer.new.ends
    c.counted.result) c.new-session.ensures.limits
    (reads_within r (c.counted.ensures (session_limits c.new-session.result) (take r.count c.args.blobs.now)
    c.args.rows.now _ c.args.points.now _ c.args.ends.now _ r.given r.later r.has_taken) may)
