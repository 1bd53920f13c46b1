use Rattle.std.proofs.Common.{refl}
use Rattle.twkb_geojson.specs.Coordinate.{size_text, fraction_digits}
use Rattle.std.specs.Fmt.{digits}
use Rattle.twkb_geojson.proofs.laws.samples.Goals as goal

pub returns-clause-half : goal.returns-clause-half
unfolding size_text fraction_digits digits
returns-clause-half c = refl

pub returns-clause-zero : goal.returns-clause-zero
unfolding size_text fraction_digits digits
returns-clause-zero c = refl

pub returns-clause-example : goal.returns-clause-example
unfolding size_text fraction_digits digits
returns-clause-example c = refl

pub returns-clause-whole : goal.returns-clause-whole
unfolding size_text fraction_digits digits
returns-clause-whole c = refl

pub returns-clause-least : goal.returns-clause-least
unfolding size_text fraction_digits digits
returns-clause-least c = refl

pub returns-clause-tens : goal.returns-clause-tens
unfolding size_text fraction_digits digits
returns-clause-tens c = refl
