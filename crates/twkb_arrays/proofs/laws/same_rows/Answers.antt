use Rattle.twkb_arrays.proofs.ReadingLaws.{rows_of_text}
use Rattle.twkb_arrays.proofs.laws.same_rows.Goals as goal

pub returns : goal.returns
returns c = rows_of_text
