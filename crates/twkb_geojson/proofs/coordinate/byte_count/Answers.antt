use Rattle.twkb_geojson.proofs.DigitLemmas.{count_by_zeros}
use Rattle.twkb_geojson.proofs.coordinate.byte_count.Goals as goal

pub returns-clause-counted : goal.returns-clause-counted
returns-clause-counted c = count_by_zeros c.args.word c.requires c.ranges.word.fits
