use Rattle.std.proofs.Common.{rules}
use Rattle.twkb_arrays.proofs.TakingLemmas.{not_taken, taken_one}
use Rattle.twkb_arrays.proofs.taken_geometries.take_geometry.Goals as goal

pub returns-then-not-has_room-clause-takes : goal.returns-then-not-has_room-clause-takes
returns-then-not-has_room-clause-takes c = λ l bytes start_rows start_points start_ends given later g h same last.
    rw (c.pass.ensures, c.node_count-row_count.ensures.value, c.point_count-point_count.ensures)
    (not_taken h g same
    (rw (c.node_count-row_count.ensures.value, c.point_count-point_count.ensures)
    at (c.if-not-has_room.ensures.lacks (search rules))))

pub returns-clause-takes : goal.returns-clause-takes
returns-clause-takes c = λ l bytes start_rows start_points start_ends given later g h same last.
    let room = rw (c.node_count-row_count.ensures.value, c.point_count-point_count.ensures) at
    (c.if-not-has_room.ensures.has (search rules)) in
    rw (c.node_count-row_count.ensures.value, c.point_count-point_count.ensures)
    (taken_one h g same c.args.end room.0 room.1 room.2 last room.3 c.put_end.ensures.none c.put_end.ensures.put
    c.put_from.ensures.rows c.put_from.ensures.points)
