use Rattle.twkb_convert.proofs.RoundTrips.{pack_front}
use Rattle.twkb_convert.proofs.laws.pack_front.Goals as goal

pub returns : goal.returns
returns c = pack_front
