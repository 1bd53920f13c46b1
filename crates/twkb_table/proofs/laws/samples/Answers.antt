use Rattle.std.proofs.Common.{refl}
use Rattle.std.specs.Fmt.{digits as decimal_digits}
use Rattle.twkb_num.specs.Spelling.{digits, digits_within}
use Rattle.twkb_table.proofs.laws.samples.Goals as goal

pub returns : goal.returns
unfolding decimal_digits digits digits_within
returns c = record { point = refl; text = refl; polygon = refl; collection = refl }
