use Rattle.twkb_geojson.proofs.ReadingLemmas.{only_one_text}
use Rattle.twkb_geojson.proofs.laws.one_text.Goals as goal

pub returns : goal.returns
returns c = only_one_text
