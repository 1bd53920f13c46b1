use Rattle.twkb_convert.proofs.RoundTrips.{pack_of_unpack}
use Rattle.twkb_convert.proofs.laws.pack_of_unpack.Goals as goal

pub returns : goal.returns
returns c = pack_of_unpack
