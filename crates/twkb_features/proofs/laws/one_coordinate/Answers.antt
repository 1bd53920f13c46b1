use Rattle.twkb_features.proofs.SignLemmas.{one_coordinate}
use Rattle.twkb_features.proofs.laws.one_coordinate.Goals as goal

pub returns : goal.returns
returns c = one_coordinate
