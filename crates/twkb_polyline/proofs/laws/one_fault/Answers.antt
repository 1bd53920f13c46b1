use Rattle.twkb_polyline.proofs.FaultLemmas.{text_fault_one}
use Rattle.twkb_polyline.proofs.laws.one_fault.Goals as goal

pub returns : goal.returns
returns c = text_fault_one
