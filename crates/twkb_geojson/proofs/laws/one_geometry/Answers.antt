use Rattle.twkb_geojson.proofs.ReadBackLemmas.{one_geometry}
use Rattle.twkb_geojson.proofs.laws.one_geometry.Goals as goal

pub returns : goal.returns
returns c = one_geometry
