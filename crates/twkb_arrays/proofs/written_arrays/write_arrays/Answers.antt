use Rattle.std.proofs.Common.{refl}
use Rattle.twkb_arrays.proofs.WrittenLemmas.{writes_all, writes_within}
use Rattle.twkb_arrays.proofs.written_arrays.write_arrays.Goals as goal

pub write_all-answer-requires-clause-new : goal.write_all-answer-requires-clause-new
write_all-answer-requires-clause-new c = c.new-writer.ensures.writing c.args.limits c.args.style c.args.output.now
    c.args.ends.now refl

pub returns-clause-writes : goal.returns-clause-writes
returns-clause-writes c = λ never.
    let w = c.write_all-answer.ensures in
    writes_all w (c.reported.ensures c.args.style c.args.output.now c.args.ends.now _ _ w.given w.later w.has_sent
    w.taken) never

pub returns-clause-within_room : goal.returns-clause-within_room
returns-clause-within_room c = λ may.
    let w = c.write_all-answer.ensures in
    writes_within w (c.reported.ensures c.args.style c.args.output.now c.args.ends.now _ _ w.given w.later w.has_sent
    w.taken) may
