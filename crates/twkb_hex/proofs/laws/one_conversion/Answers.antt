use Rattle.twkb_hex.proofs.OneLemmas.{one_conversion}
use Rattle.twkb_hex.proofs.laws.one_conversion.Goals as goal

pub returns : goal.returns
returns c = one_conversion
