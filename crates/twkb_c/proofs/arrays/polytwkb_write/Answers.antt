use Rattle.twkb_c.specs.Arguments.{allowance_of}
use Rattle.twkb_c.proofs.ExportLemmas.{never_unwritten, one_flag, stop_flag, writes_named, writes_within_named}
use Rattle.twkb_c.proofs.arrays.polytwkb_write.Goals as goal

pub returns-clause-writes : goal.returns-clause-writes
returns-clause-writes c = λ allowed s named none.
    writes_named c.in-Some-Some.style c.in-Some-Some.limits (allowance_of c.args.limits) c.args.style c.args.rows.now
    c.args.points.now c.args.output.now c.args.ends.now c.write_arrays.new.output c.write_arrays.new.ends
    c.write_arrays.result c.in-Some-Some.ensures.value c.in-Some-Some.ensures'.style
    (c.write_arrays.ensures.writes (one_flag c.in-Some.stops c.args.flags c.in-Some.ensures.stops none)) s named

pub returns-clause-within_room : goal.returns-clause-within_room
returns-clause-within_room c = λ allowed s named one.
    writes_within_named c.in-Some-Some.style c.in-Some-Some.limits (allowance_of c.args.limits) c.args.style
    c.args.rows.now c.args.points.now c.args.output.now c.args.ends.now c.write_arrays.new.output
    c.write_arrays.new.ends c.write_arrays.result c.in-Some-Some.ensures.value c.in-Some-Some.ensures'.style
    (c.write_arrays.ensures.within_room (stop_flag c.in-Some.stops c.args.flags c.in-Some.ensures.stops one)) s named

pub returns-clause-refused : goal.returns-clause-refused
returns-clause-refused c = λ two.
    absurd (never_unwritten c.in-Some.stops c.in-Some-Some.limits c.in-Some-Some.style c.args.rows.now
    c.args.points.now c.args.output.now c.args.ends.now c.write_arrays.new.output c.write_arrays.new.ends
    c.write_arrays.result c.write_arrays.ensures.writes c.write_arrays.ensures.within_room two)
