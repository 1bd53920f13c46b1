use Rattle.twkb_convert.proofs.RoundTrips.{packed_rest, shown_rest, unpacked_rest}
use Rattle.twkb_convert.proofs.laws.rest_of_input.Goals as goal

pub returns : goal.returns
returns c = record { unpacked = unpacked_rest; shown = shown_rest; packed = packed_rest }
