use Rattle.twkb_convert.proofs.RoundTrips.{unpack_of_pack}
use Rattle.twkb_convert.proofs.laws.unpack_of_pack.Goals as goal

pub returns : goal.returns
returns c = unpack_of_pack
