use Rattle.twkb_convert.proofs.RoundTrips.{geojson_joined}
use Rattle.twkb_convert.proofs.laws.geojson_parts.Goals as goal

pub returns : goal.returns
returns c = geojson_joined
