use Rattle.twkb_geojson.proofs.CollectionLemmas.{one_collection}
use Rattle.twkb_geojson.proofs.laws.one_collection.Goals as goal

pub returns : goal.returns
returns c = one_collection
