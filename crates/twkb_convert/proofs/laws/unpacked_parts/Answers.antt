use Rattle.twkb_convert.proofs.RoundTrips.{unpacked_joined}
use Rattle.twkb_convert.proofs.laws.unpacked_parts.Goals as goal

pub returns : goal.returns
returns c = unpacked_joined
