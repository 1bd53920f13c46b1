use Rattle.twkb_tree.proofs.RowLaws.{goes_on_below, first_ended}
use Rattle.twkb_tree.proofs.laws.ends.Goals as goal

pub returns : goal.returns
returns c = record { below = goes_on_below; whole = first_ended }
