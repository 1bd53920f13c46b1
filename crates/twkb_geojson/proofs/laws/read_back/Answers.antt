use Rattle.twkb_geojson.proofs.EvenLemmas.{exactly_even}
use Rattle.twkb_geojson.proofs.laws.read_back.Goals as goal

pub returns : goal.returns
returns c = exactly_even
