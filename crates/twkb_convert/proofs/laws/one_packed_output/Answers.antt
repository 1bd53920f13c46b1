use Rattle.twkb_convert.proofs.RoundTrips.{one_output, some_output}
use Rattle.twkb_convert.proofs.laws.one_packed_output.Goals as goal

pub returns : goal.returns
returns c = record { some = some_output; one = one_output }
