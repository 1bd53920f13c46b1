use Rattle.std.proofs.Common.{◌∙◌, ap, nat_abs, arith, to_z-of_z}
use Rattle.twkb_geojson.proofs.near.push_near.Goals as goal

pub push_near_size-requires-clause-near : goal.push_near_size-requires-clause-near
push_near_size-requires-clause-near c =
    let size = c.unsigned_abs.ensures.value ∙ ap nat_abs (to_z-of_z c.ranges.units) in
    omega (arith, size, c.requires.near)
