use Rattle.twkb_geojson.proofs.ReadingLemmas.{exactly}
use Rattle.twkb_geojson.proofs.laws.exact.Goals as goal

pub returns : goal.returns
returns c = exactly
