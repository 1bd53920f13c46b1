use Rattle.twkb_num.proofs.VarintLemmas.{varint_is, open_varint_is}
use Rattle.twkb_num.proofs.laws.varints.Goals as goal

pub returns : goal.returns
returns c = record { whole = varint_is; begun = open_varint_is }
