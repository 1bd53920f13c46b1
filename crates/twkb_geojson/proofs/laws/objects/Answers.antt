use Rattle.std.proofs.Common.{refl}
use Rattle.twkb_geojson.proofs.laws.objects.Goals as goal

pub returns-clause-empty : goal.returns-clause-empty
returns-clause-empty c = refl

pub returns-clause-twice : goal.returns-clause-twice
returns-clause-twice c = refl
