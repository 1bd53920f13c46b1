use Rattle.twkb_geojson.proofs.UnitsLemmas.{nearest_half}
use Rattle.twkb_geojson.proofs.laws.half_up.Goals as goal

pub returns : goal.returns
returns c = nearest_half
