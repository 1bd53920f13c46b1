use Rattle.std.proofs.Common.{◌≡◌, [], ◌∷◌, rules, map, codes}
use Rattle.twkb_command.proofs.RequestLemmas.{line_of_styles, line_one}
use Rattle.twkb_command.proofs.words.read_words.Goals as goal

pub returns : goal.returns
returns c =
    let styles = c.as_slice.result in
    let names : map (λ name. name.now) styles.now ≡ codes "full" ∷ codes "plain" ∷ [] = search rules in
    let read = c.read_styled_words.ensures in
    line_of_styles styles names
    (record {
      asked = read.asked;
      fits = read.fits;
      proper = read.proper;
      refused = read.refused;
      one_request = line_one styles _;
    })
