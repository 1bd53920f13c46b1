use Rattle.twkb_polyline.proofs.NumberLemmas.{too_long_numbers}
use Rattle.twkb_polyline.proofs.laws.too_long_numbers.Goals as goal

pub returns : goal.returns
returns c = too_long_numbers
