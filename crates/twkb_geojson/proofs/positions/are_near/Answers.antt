use Rattle.std.proofs.Common.{rules, FitsSigned, w64, ◌∙◌, ◌<◌, ◌*◌, ap, nat_abs, arith}
use Rattle.std.proofs.lemmas.Int.{to_z-of_z}
use Rattle.std.proofs.lemmas.Bool.{ltb-true}
use Rattle.std.proofs.Math.Nat.{le-max_left, le-max_right}
use Rattle.twkb_geojson.proofs.positions.are_near.Goals as goal

pub returns : goal.returns
returns c = λ t.
    let fits_x : FitsSigned w64 c.x.result = search rules in
    let fits_y : FitsSigned w64 c.y.result = search rules in
    let x = simp to_z-of_z at c.unsigned_abs.ensures.value in
    let y = simp to_z-of_z at c.unsigned_abs-2.ensures.value in
    let left = le-max_left c.unsigned_abs.result c.unsigned_abs-2.result in
    let right = le-max_right c.unsigned_abs.result c.unsigned_abs-2.result in
    let below : c.max.result < c.from-most.result * 1000 = ltb-true _ _ t in
    let most = c.from-most.ensures in
    let scale = c.ten_to.ensures in
    record {
      x = omega (arith, x ∙ ap nat_abs c.x.ensures.value, left, below, c.max.ensures, most, scale);
      y = omega (arith, y ∙ ap nat_abs c.y.ensures.value, right, below, c.max.ensures, most, scale);
    }
