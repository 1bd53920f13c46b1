use Rattle.twkb_split.proofs.StreamLaws.{packed_alike}
use Rattle.twkb_split.proofs.laws.same_stream.Goals as goal

pub returns : goal.returns
returns c = λ style l column csv allowed plain whole. packed_alike style l column allowed plain csv whole
