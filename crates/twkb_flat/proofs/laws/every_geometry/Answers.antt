use Rattle.twkb_flat.proofs.LastPoint.{each_goes_on}
use Rattle.twkb_flat.proofs.laws.every_geometry.Goals as goal

pub returns : goal.returns
returns c = each_goes_on
