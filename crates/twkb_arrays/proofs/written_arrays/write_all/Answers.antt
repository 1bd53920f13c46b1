use Rattle.std.proofs.Common.{ap, arith}
use Rattle.twkb_arrays.specs.declared.writer.Writer.{Writer}
use Rattle.twkb_arrays.proofs.WritingLemmas.{sent_within}
use Rattle.twkb_arrays.proofs.WrittenLemmas.{as_many, wrote_left, wrote_whole, wrote_without_memory}
use Rattle.twkb_arrays.proofs.written_arrays.write_all.Goals as goal

pub returns-in-Ok-None : goal.returns-in-Ok-None
returns-in-Ok-None c = rw c.in-Ok-None.field-0-is at c.in-Ok-None.ensures.early

pub returns-in-Err : goal.returns-in-Err
returns-in-Err c = c.in-Err.ensures.early

pub returns-then-used-points : goal.returns-then-used-points
returns-then-used-points c =
    let found = c.in-Ok-Some.field-0-is in
    let on = rw found at c.in-Ok-Some.ensures.on in
    rw c.points_left.ensures (wrote_left c.args.rows.now c.args.points.now c.in-Ok-Some.count (rw found at
    c.in-Ok-Some.ensures.few)
    (rw found at c.in-Ok-Some.ensures.reads) c.note.new.self c.if-used-points.true
    (rw found at c.in-Ok-Some.ensures.last) c.note.ensures.marks
    (λ may. omega (arith, c.note.ensures.passed, on may)))

pub end_geometry-requires-clause-within : goal.end_geometry-requires-clause-within
end_geometry-requires-clause-within c =
    let reads = rw c.in-Ok-Some.field-0-is at c.in-Ok-Some.ensures.reads in sent_within reads.sent

pub returns-in-Ok : goal.returns-in-Ok
returns-in-Ok c =
    let found = c.in-Ok-Some.field-0-is in
    let on = rw found at c.in-Ok-Some.ensures.on in
    let few = rw found at c.in-Ok-Some.ensures.few in
    let reads = rw found at c.in-Ok-Some.ensures.reads in
    wrote_whole c.args.rows.now c.args.points.now c.in-Ok-Some.count few
    (c.in-Ok.ensures.ended c.args.limits.now c.args.output.now c.args.ends.now c.args.rows.now _
    (as_many c.args.rows.now c.args.points.now c.in-Ok-Some.count few) reads)
    c.note-in-Ok.new.self c.if-used-points.false c.in-Ok.ensures.closed c.note-in-Ok.ensures.marks
    (λ may. omega (arith, c.note-in-Ok.ensures.passed, c.in-Ok.ensures.one, on may))

pub returns-in-Err-end_geometry : goal.returns-in-Err-end_geometry
returns-in-Err-end_geometry c =
    let found = c.in-Ok-Some.field-0-is in
    let on = rw found at c.in-Ok-Some.ensures.on in
    let few = rw found at c.in-Ok-Some.ensures.few in
    let reads = rw found at c.in-Ok-Some.ensures.reads in
    let same = c.in-Err-end_geometry.ensures.same in
    wrote_without_memory c.args.rows.now c.args.points.now c.in-Ok-Some.count few reads
    c.end_geometry.new.self c.note-in-Err-end_geometry.new.self c.in-Err-end_geometry.ensures.same_output.0
    c.in-Err-end_geometry.ensures.same_output.1 (ap (λ (w : Writer). w.sent) same)
    (ap (λ (w : Writer). w.open_geometry) same) c.note-in-Err-end_geometry.ensures.marks
    (λ may. omega (arith, c.note-in-Err-end_geometry.ensures.passed, c.in-Err-end_geometry.ensures.one, on may))
