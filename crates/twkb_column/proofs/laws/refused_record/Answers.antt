use Rattle.twkb_column.proofs.FaultLemmas.{no_fault}
use Rattle.twkb_column.proofs.OutputLemmas.{refused_first, refused_told}
use Rattle.twkb_column.proofs.laws.refused_record.Goals as goal

pub returns : goal.returns
returns c = record { told = refused_first; one = refused_told; none = no_fault }
