use Rattle.twkb_num.proofs.FoundLemmas.{marks_joined}
use Rattle.twkb_num.proofs.block.sixty_four.Goals as goal

pub returns : goal.returns
returns c = marks_joined 0 32 c.args.alphabet.base c.args.bytes.now c.thirty_two-low.result c.thirty_two-high.result
    c.requires.long c.thirty_two-low.ensures.marks c.thirty_two-high.ensures.marks
