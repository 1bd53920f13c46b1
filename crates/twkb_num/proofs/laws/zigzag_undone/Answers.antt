use Rattle.twkb_num.proofs.ZigzagLemmas.{unzigzag_of-zigzag_of, zigzag_of-unzigzag_of}
use Rattle.twkb_num.proofs.laws.zigzag_undone.Goals as goal

pub returns : goal.returns
returns c = record { number = unzigzag_of-zigzag_of; form = zigzag_of-unzigzag_of }
