use Rattle.twkb_num.proofs.WordLemmas.{word_is}
use Rattle.twkb_num.proofs.word.four_bytes.Goals as goal

pub returns : goal.returns
returns c = word_is 4 c.args.bytes.now c.type_inv.bytes
