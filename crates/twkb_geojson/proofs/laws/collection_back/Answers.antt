use Rattle.twkb_geojson.proofs.ReadBackLemmas.{collection_back}
use Rattle.twkb_geojson.proofs.laws.collection_back.Goals as goal

pub returns : goal.returns
returns c = collection_back
