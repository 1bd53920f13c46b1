use Rattle.twkb_geojson.proofs.NameLemmas.{by_name}
use Rattle.twkb_geojson.proofs.laws.by_name.Goals as goal

pub returns : goal.returns
returns c = by_name
