use Rattle.std.proofs.Common.{◌∙◌, ◌+◌, ◌-◌, take, drop, ap, length, arith}
use Rattle.twkb_flat.proofs.FlatOpenLemmas.{length-rows, points_inside, points_here}
use Rattle.twkb_flat.proofs.flat.Flat.own_points.Goals as goal

pub index-requires : goal.index-requires
index-requires c = omega (arith, c.requires, length-rows _ _ _ c.self.view_is, c.self.inside.kept.ok.0)

pub returns-clause-points : goal.returns-clause-points
returns-clause-points c =
    let all = length-rows _ _ _ c.self.view_is in
    λ row rest here.
    c.part.ensures
    ∙ ap (λ ps. take (c.index.result.now.placed.first + c.index.result.now.placed.points
    - c.index.result.now.placed.first) (drop c.index.result.now.placed.first ps)) c.deref.ensures.value
    ∙ points_here _ _ c.args.at c.index.result.now _ row rest c.self.invariant.laid c.self.view_is
    (omega (arith, c.requires, all)) c.index.ensures here

pub returns-clause-few : goal.returns-clause-few
returns-clause-few c = omega (arith, length-rows _ _ _ c.self.view_is, c.self.invariant.nodes)

pub part-requires : goal.part-requires
part-requires c =
    let all = length-rows _ _ _ c.self.view_is in
    let inside = points_inside _ _ c.args.at c.index.result.now c.self.invariant.laid
    (omega (arith, c.requires, all)) c.index.ensures in
    record { order = omega arith; within = omega (arith, inside, ap length c.deref.ensures.value) }
