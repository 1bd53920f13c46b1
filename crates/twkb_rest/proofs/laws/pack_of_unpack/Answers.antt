use Rattle.twkb_rest.proofs.ColumnLaws.{packed_again}
use Rattle.twkb_rest.proofs.laws.pack_of_unpack.Goals as goal

pub returns : goal.returns
returns c = packed_again
