use Rattle.twkb_geojson.proofs.DigitLemmas.{pair_at}
use Rattle.twkb_geojson.proofs.digits.two_digits.Goals as goal

pub returns : goal.returns
returns c = pair_at c.args.number c.requires
