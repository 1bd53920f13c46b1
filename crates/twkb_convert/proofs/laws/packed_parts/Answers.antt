use Rattle.twkb_convert.proofs.RoundTrips.{packed_cut, packed_joined}
use Rattle.twkb_convert.proofs.laws.packed_parts.Goals as goal

pub returns : goal.returns
returns c = record { joined = packed_joined; cut = packed_cut }
