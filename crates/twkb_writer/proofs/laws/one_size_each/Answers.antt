use Rattle.twkb_writer.proofs.TreeBytes as counts
use Rattle.twkb_writer.proofs.laws.one_size_each.Goals as goal

pub returns : goal.returns
returns c = counts.one_size_each
