use Rattle.std.proofs.Common.{[], ◌∷◌}
use Rattle.twkb_polyline.proofs.TextLemmas.{spread_lane}
use Rattle.twkb_polyline.proofs.spelled_numbers.spread_four.Goals as goal

pub returns : goal.returns
returns c =
    let first = spread_lane c.args.first c.requires.first_few in
    let second = spread_lane c.args.second c.requires.second_few in
    let third = spread_lane c.args.third c.requires.third_few in
    let fourth = spread_lane c.args.fourth c.requires.fourth_few in
    λ i. first i ∷ second i ∷ third i ∷ fourth i ∷ []
