use Rattle.twkb_polyline.proofs.FaultLemmas.{one_polyline}
use Rattle.twkb_polyline.proofs.laws.distinct_lists.Goals as goal

pub returns : goal.returns
returns c = one_polyline
