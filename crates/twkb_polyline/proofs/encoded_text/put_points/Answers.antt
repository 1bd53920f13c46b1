use Rattle.std.proofs.Common.{◌≡◌, ◌∙◌, [], ◌∷◌, sym, ap, append-nil, rules}
use Rattle.std.proofs.lemmas.List.{nil_from_length}
use Rattle.twkb_polyline.proofs.TextLemmas.{has_put_first, has_put_more, points_are, left_one}
use Rattle.twkb_polyline.specs.Polyline.{points_of}
use Rattle.twkb_polyline.proofs.encoded_text.put_points.Goals as goal
use Rattle.twkb_polyline.proofs.encoded_text.put_points.Goals.{then-not-is_empty+in_ok-put_pairs, else-not-is_empty}

pub loop-point-init : goal.loop-point-init
loop-point-init c =
    let points = c.args.points.now in
    let old = c.args.text.now.items in
    let pairs = c.as_chunks.result.0.now in
    let rest = c.as_chunks.result.1.now in
    let split = points_are points rest pairs _ c.as_chunks.ensures.front c.as_chunks.ensures.back in
    elim c.if-not-is_empty.branch [
      | then-not-is_empty+in_ok-put_pairs w ↦
          let ensures = rw c.origin-cursor.ensures at w.in_ok-put_pairs.ensures in
          has_put_first (points_of pairs) split (w.cursor-is ∙ ensures.moved)
          (ap (λ t. t.items) w.text-is ∙ ensures.appended)
      | else-not-is_empty w ↦
          let none : pairs ≡ [] = nil_from_length pairs (search rules) in
          has_put_first [] (rw none at split) (w.cursor-is ∙ c.origin-cursor.ensures) (ap (λ t. t.items) w.text-is
          ∙ sym (append-nil old))
    ]

pub loop-point-preserved : goal.loop-point-preserved
loop-point-preserved c =
    let rest = c.as_chunks.result.1.now in
    let i = c.loop-point.point-index in
    let left = left_one rest i c.point-item.result c.loop-point-test.true c.point-item.is in
    has_put_more (c.point-item.result ∷ []) (rw left at c.loop-point.invariant)
    c.in_ok-put_point.ensures.moved c.in_ok-put_point.ensures.appended
