use Rattle.std.proofs.Common.{◌∙◌, ◌+◌, [], ◌∷◌, ◌++◌, ap, drop}
use Rattle.twkb_polyline.proofs.TextLemmas.{left_one}
use Rattle.twkb_buffer.specs.Polylines.{coordinates_of}
use Rattle.twkb_buffer.proofs.RunLemmas.{coordinates_put}
use Rattle.twkb_buffer.proofs.polylines.coordinates.Goals as goal

pub loop-point-preserved : goal.loop-point-preserved
loop-point-preserved c =
    let points = c.args.points.now in
    let i = c.loop-point.point-index in
    let next = left_one points i c.point-item.result c.loop-point-test.true c.point-item.is in
    coordinates_put (coordinates_of points) c.loop-point.coordinates.items c.push.new.self.items
    (drop i points) (drop (i + 1) points) c.point-item.result
    c.loop-point.invariant next (c.in_ok-push.ensures.items
    ∙ ap (λ d. c.loop-point.coordinates.items ++ d ∷ []) c.as_coordinates.ensures)
