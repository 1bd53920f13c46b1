use Rattle.twkb_convert.proofs.RoundTrips.{located_joined, shown_joined}
use Rattle.twkb_convert.proofs.laws.shown_parts.Goals as goal

pub returns : goal.returns
returns c = record { blobs = located_joined; text = shown_joined }
