use Rattle.twkb_blob.proofs.Counts.{one_held, one_frames}
use Rattle.twkb_blob.proofs.laws.one_count.Goals as goal

pub returns-clause-held : goal.returns-clause-held
returns-clause-held c = one_held

pub returns-clause-frames : goal.returns-clause-frames
returns-clause-frames c = one_frames
