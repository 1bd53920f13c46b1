use Rattle.std.proofs.Common.{refl}
use Rattle.twkb_geojson.specs.Coordinate.{spelled_after, places_in}
use Rattle.twkb_geojson.specs.Reading.{before_exponent, after_mark, units_said}
use Rattle.twkb_geojson.proofs.laws.readings.Goals as goal

pub returns-clause-plain : goal.returns-clause-plain
unfolding spelled_after places_in before_exponent after_mark units_said
returns-clause-plain c = refl

pub returns-clause-half : goal.returns-clause-half
unfolding spelled_after places_in before_exponent after_mark units_said
returns-clause-half c = refl

pub returns-clause-minus_half : goal.returns-clause-minus_half
unfolding spelled_after places_in before_exponent after_mark units_said
returns-clause-minus_half c = refl

pub returns-clause-below_half : goal.returns-clause-below_half
unfolding spelled_after places_in before_exponent after_mark units_said
returns-clause-below_half c = refl

pub returns-clause-smaller : goal.returns-clause-smaller
unfolding spelled_after places_in before_exponent after_mark units_said
returns-clause-smaller c = refl

pub returns-clause-greater : goal.returns-clause-greater
unfolding spelled_after places_in before_exponent after_mark units_said
returns-clause-greater c = refl

pub returns-clause-whole : goal.returns-clause-whole
unfolding spelled_after places_in before_exponent after_mark units_said
returns-clause-whole c = refl

pub returns-clause-no_whole : goal.returns-clause-no_whole
unfolding spelled_after places_in before_exponent after_mark units_said
returns-clause-no_whole c = refl
