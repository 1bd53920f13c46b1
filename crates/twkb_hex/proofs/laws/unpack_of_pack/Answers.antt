use Rattle.twkb_hex.proofs.AgainLemmas.{unpacked_again}
use Rattle.twkb_hex.proofs.laws.unpack_of_pack.Goals as goal

pub returns : goal.returns
returns c = unpacked_again
