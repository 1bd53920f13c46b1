use Rattle.twkb_arrays.proofs.ReadingLaws.{refused_alike}
use Rattle.twkb_arrays.proofs.laws.one_refusal.Goals as goal

pub returns : goal.returns
returns c = refused_alike
