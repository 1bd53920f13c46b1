use Rattle.twkb_arrays.proofs.WritingLaws.{one_reason}
use Rattle.twkb_arrays.proofs.laws.one_reason.Goals as goal

pub returns : goal.returns
returns c = one_reason
