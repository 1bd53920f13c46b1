use Rattle.std.proofs.Common.{◌+◌, pos, drop, get_or, arith}
use Rattle.std.proofs.lemmas.List.{drop_more, drop_all}
use Rattle.twkb_buffer.specs.declared.point.BufferPoint.{BufferPoint}
use Rattle.twkb_arrays.proofs.ArrayLemmas.{decided, decides_more}
use Rattle.twkb_arrays.proofs.judged_row.are_in_range.Goals as goal

abbrev none : BufferPoint
none = record { x = pos 0; y = pos 0 }

pub loop-point-preserved : goal.loop-point-preserved
loop-point-preserved c =
    let own = c.args.own.now in
    let i = c.loop-point.point-index in
    decides_more own (drop i own) (drop (i + 1) own) (get_or own i none) _ _ c.loop-point.invariant
    (drop_more own i none c.loop-point-test.true) c.both_above_least-joined.ensures.two
    c.both_above_least-joined.ensures.value

pub returns : goal.returns
returns c =
    let own = c.args.own.now in
    let i = c.loop-point.point-index in
    decided own (drop i own) c.loop-point.joined c.loop-point.invariant
    (drop_all i own (omega (arith, c.loop-point-test.false)))
