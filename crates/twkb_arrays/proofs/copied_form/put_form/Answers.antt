use Rattle.std.proofs.Common.{arith, refl}
use Rattle.twkb_arrays.proofs.ArrayLemmas.{points_left, written_more}
use Rattle.twkb_arrays.proofs.copied_form.put_form.Goals as goal

pub overflow_add-last : goal.overflow_add-last
overflow_add-last c = omega (arith, points_left c.loop-at.invariant c.row_at.ensures.row)

pub offset_bounds-points-first : goal.offset_bounds-points-first
offset_bounds-points-first c = omega (arith, points_left c.loop-at.invariant c.row_at.ensures.row)

pub slice_bounds-put_points-end : goal.slice_bounds-put_points-end
slice_bounds-put_points-end c = omega (arith, points_left c.loop-at.invariant c.row_at.ensures.row)

pub loop-at-preserved : goal.loop-at-preserved
loop-at-preserved c = written_more _ c.loop-at.invariant c.row_at.ensures.row
    (c.in_layout.ensures c.row_at.result.1.now refl) c.put_points.ensures (omega arith)
