use Rattle.std.proofs.Common.{◌≡◌, ◌+◌, pos, true, false, drop, get_or, refl}
use Rattle.std.proofs.lemmas.List.{drop_more}
use Rattle.twkb_points.specs.Point.{IsInRange, point_at}
use Rattle.twkb_buffer.specs.declared.point.BufferPoint.{BufferPoint}
use Rattle.twkb_buffer.proofs.RunLemmas.{taken_more, taken_outside}
use Rattle.twkb_buffer.proofs.polylines.points_at.Goals as goal

abbrev none : BufferPoint
none = record { x = pos 0; y = pos 0 }

pub returns-in_default-clause-refused : goal.returns-in_default-clause-refused
returns-in_default-clause-refused c =
    let given = c.args.given.now in
    let i = c.loop-coordinates.coordinates-index in
    let item : BufferPoint = get_or given i none in
    let next = drop_more given i none c.loop-coordinates-test.true in
    let outside : IsInRange (point_at item.x item.y)
    → ⊥ = λ fits. let told : false ≡ true = c.in_default.ensures.range.1 fits in cc in (
      taken_outside given (drop i given) (drop (i + 1) given) c.loop-coordinates.points.items item
          c.count.result c.loop-coordinates.invariant next outside c.count.ensures,
      refl,
    )

pub loop-coordinates-preserved : goal.loop-coordinates-preserved
loop-coordinates-preserved c =
    let given = c.args.given.now in
    let i = c.loop-coordinates.coordinates-index in
    let item : BufferPoint = get_or given i none in
    let next = drop_more given i none c.loop-coordinates-test.true in
    taken_more given (drop i given) (drop (i + 1) given) c.loop-coordinates.points.items
    c.put.new.self.items c.in-Some.point item
    c.loop-coordinates.invariant next c.in-Some.ensures.value c.in-Some.ensures.in_range c.in_ok-put.ensures.appended
