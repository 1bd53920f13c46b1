use Rattle.twkb_column.proofs.OutputLemmas.{one_output_of, some_output_of}
use Rattle.twkb_column.proofs.laws.one_packed_output.Goals as goal

pub returns : goal.returns
returns c = record { some = some_output_of; one = one_output_of }
