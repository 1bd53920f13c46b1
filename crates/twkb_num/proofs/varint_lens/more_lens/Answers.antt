use Rattle.std.proofs.Common.{[], ◌∷◌}
use Rattle.twkb_num.proofs.VarintLemmas.{added_is}
use Rattle.twkb_num.proofs.varint_lens.more_lens.Goals as goal

pub returns : goal.returns
returns c =
    let first = added_is c.args.first c.requires.first_small in
    let second = added_is c.args.second c.requires.second_small in
    let third = added_is c.args.third c.requires.third_small in
    let fourth = added_is c.args.fourth c.requires.fourth_small in
    λ i. first i ∷ second i ∷ third i ∷ fourth i ∷ []
