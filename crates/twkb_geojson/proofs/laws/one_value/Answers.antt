use Rattle.twkb_geojson.proofs.ValueLemmas.{one_value}
use Rattle.twkb_geojson.proofs.laws.one_value.Goals as goal

pub returns : goal.returns
returns c = one_value
