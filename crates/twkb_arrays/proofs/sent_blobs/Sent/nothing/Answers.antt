use Rattle.std.proofs.Common.{refl, sym}
use Rattle.twkb_arrays.proofs.WritingLemmas.{none_sent}
use Rattle.twkb_arrays.proofs.sent_blobs.Sent.nothing.Goals as goal

pub returns-clause-sent : goal.returns-clause-sent
returns-clause-sent c = λ style output ends is. none_sent style output ends is refl refl refl refl
