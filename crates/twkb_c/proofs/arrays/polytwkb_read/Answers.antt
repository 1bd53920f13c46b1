use Rattle.twkb_c.specs.Arguments.{allowance_of}
use Rattle.twkb_c.proofs.ExportLemmas.{never_refused, one_flag, reads_named, reads_within_named, stop_flag}
use Rattle.twkb_c.proofs.arrays.polytwkb_read.Goals as goal

pub returns-clause-reads : goal.returns-clause-reads
returns-clause-reads c = λ allowed none.
    reads_named c.in-Some-Some.limits (allowance_of c.args.limits) c.args.blobs.now c.args.rows.now c.args.points.now
    c.args.ends.now c.read_arrays.new.rows c.read_arrays.new.points c.read_arrays.new.ends c.read_arrays.result
    c.in-Some-Some.ensures.value
    (c.read_arrays.ensures.reads (one_flag c.in-Some-Some.stops c.args.flags c.in-Some-Some.ensures'.stops none))

pub returns-clause-within_room : goal.returns-clause-within_room
returns-clause-within_room c = λ allowed one.
    reads_within_named c.in-Some-Some.limits (allowance_of c.args.limits) c.args.blobs.now c.args.rows.now
    c.args.points.now c.args.ends.now c.read_arrays.new.rows c.read_arrays.new.points c.read_arrays.new.ends
    c.read_arrays.result c.in-Some-Some.ensures.value
    (c.read_arrays.ensures.within_room (stop_flag c.in-Some-Some.stops c.args.flags c.in-Some-Some.ensures'.stops one))

pub returns-clause-refused : goal.returns-clause-refused
returns-clause-refused c = λ two.
    absurd (never_refused c.in-Some-Some.stops c.in-Some-Some.limits c.args.blobs.now c.args.rows.now c.args.points.now
    c.args.ends.now c.read_arrays.new.rows c.read_arrays.new.points c.read_arrays.new.ends c.read_arrays.result
    c.read_arrays.ensures.reads c.read_arrays.ensures.within_room two)
