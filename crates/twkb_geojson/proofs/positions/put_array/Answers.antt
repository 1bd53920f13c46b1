use Rattle.std.proofs.Common.{FitsSigned, w8, ◌∙◌, ap, ◌++◌, [], ◌∷◌, drop, take, length, ◌-◌, arith}
use Rattle.std.proofs.lemmas.Int.{to_z-of_z}
use Rattle.std.proofs.lemmas.List.{nil_from_length}
use Rattle.twkb_geojson.specs.Value.{position}
use Rattle.twkb_geojson.proofs.PrintLemmas.{array_put, first_of, no_elements_put}
use Rattle.twkb_geojson.proofs.positions.put_array.Goals as goal

pub returns-clause-appended : goal.returns-clause-appended
returns-clause-appended c =
    let fits : FitsSigned w8 c.args.precision = c.ranges.precision in
    let others = simp to_z-of_z at c.in_ok-put_others.ensures.appended in
    let first = simp to_z-of_z at c.push_any.ensures.appended in
    array_put (position c.args.precision) c.args.points.now
    (take (length c.args.points.now - 1) (drop 1 c.args.points.now)) c.first-item.result
    c.args.text.now.items c.push.new.self c.push_any.new.piece c.put_others.new.text.items c.put_others.new.piece
    c.make_room.new.text.items c.make_room.new.piece c.push-2.new.self c.flush.new.text.items
    (first_of c.args.points.now c.first-item.result c.in-len1-up.len_at_least c.first-item.is)
    (c.push.ensures ∙ ap (λ l. l ++ 91 ∷ []) c.new-piece.ensures) first
    others c.in_ok-make_room.ensures.held c.push-2.ensures c.in_ok-flush.ensures.appended

pub returns-in_default-clause-appended : goal.returns-in_default-clause-appended
returns-in_default-clause-appended c =
    no_elements_put (position c.args.precision) c.args.points.now c.args.text.now.items
    c.extend_from_slice.new.self.items
    (nil_from_length c.args.points.now (omega arith)) c.in_ok-extend_from_slice.ensures.items
