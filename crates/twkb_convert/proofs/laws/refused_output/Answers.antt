use Rattle.twkb_convert.proofs.RoundTrips.{refused_output}
use Rattle.twkb_convert.proofs.laws.refused_output.Goals as goal

pub returns : goal.returns
returns c = refused_output
