use Rattle.twkb_num.proofs.ZigzagLemmas.{zigzag_one}
use Rattle.twkb_num.proofs.laws.one_form.Goals as goal

pub returns : goal.returns
returns c = zigzag_one
