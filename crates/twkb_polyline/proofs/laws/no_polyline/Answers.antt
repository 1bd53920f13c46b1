use Rattle.twkb_polyline.proofs.FaultLemmas.{text_fault_none}
use Rattle.twkb_polyline.proofs.laws.no_polyline.Goals as goal

pub returns : goal.returns
returns c = text_fault_none
