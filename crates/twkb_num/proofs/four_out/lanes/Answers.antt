use Rattle.twkb_num.proofs.SpelledLemmas.{lanes_are}
use Rattle.twkb_num.proofs.four_out.lanes.Goals as goal

pub returns : goal.returns
returns c =
    lanes_are c.args.alphabet.base c.args.alphabet.radix c.from.result c.from-bound.result
    c.args.first c.args.second c.args.third c.args.fourth c.requires.known c.requires.in_bytes
    c.from.ensures c.from-bound.ensures c.requires.first_small c.requires.second_small
    c.requires.third_small c.requires.fourth_small
