use Rattle.twkb_num.proofs.VarintLemmas.{length_by_zeros}
use Rattle.twkb_num.proofs.varint.varint_len.Goals as goal

pub returns-clause-value : goal.returns-clause-value
returns-clause-value c = length_by_zeros c.args.number c.ranges.number.fits
