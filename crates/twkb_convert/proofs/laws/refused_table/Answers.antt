use Rattle.twkb_convert.proofs.RoundTrips.{refused_all, refused_none}
use Rattle.twkb_convert.proofs.laws.refused_table.Goals as goal

pub returns : goal.returns
returns c = record { complete = refused_all; none = refused_none }
