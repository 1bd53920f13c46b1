use Rattle.twkb_table.proofs.Verdicts.{named_cut, named_joined}
use Rattle.twkb_table.proofs.laws.parts.Goals as goal

pub returns : goal.returns
returns c = record { joined = named_joined; cut = named_cut }
