use Rattle.twkb_convert.proofs.RoundTrips.{one_table, some_table}
use Rattle.twkb_convert.proofs.laws.one_unpacked_output.Goals as goal

pub returns : goal.returns
returns c = record { some = some_table; one = one_table }
