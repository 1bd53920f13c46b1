use Rattle.twkb_polyline.proofs.FaultLemmas.{text_or_fault}
use Rattle.twkb_polyline.proofs.laws.polyline_or_fault.Goals as goal

pub returns : goal.returns
returns c = text_or_fault
