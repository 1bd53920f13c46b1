use Rattle.twkb_convert.proofs.RoundTrips.{unpack_front}
use Rattle.twkb_convert.proofs.laws.unpack_front.Goals as goal

pub returns : goal.returns
returns c = unpack_front
