use Rattle.std.proofs.Common.{refl}
use Rattle.twkb_num.specs.Spelling.{digits, digits_within}
use Rattle.twkb_polyline.proofs.laws.samples.Goals as goal

pub returns : goal.returns
unfolding digits digits_within
returns c = record { number = refl; example = refl; ends = refl }
