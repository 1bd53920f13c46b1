use Rattle.twkb_geojson.proofs.DigitLemmas.{ten_at}
use Rattle.twkb_geojson.proofs.coordinate.ten_to.Goals as goal

pub returns : goal.returns
returns c = ten_at c.args.power c.requires
