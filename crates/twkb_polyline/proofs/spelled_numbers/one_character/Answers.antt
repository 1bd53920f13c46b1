use Rattle.std.proofs.Common.{ℕ, [], ◌∷◌, sym, ◌∙◌, ap}
use Rattle.twkb_num.specs.Alphabet.{five_unit}
use Rattle.twkb_num.proofs.SpellingLemmas.{shortest_one}
use Rattle.twkb_polyline.proofs.spelled_numbers.one_character.Goals as goal

pub returns : goal.returns
returns c = shortest_one five_unit 32 c.args.number c.requires ∙ ap (λ (u : ℕ). u ∷ []) (sym c.to_unit.ensures)
