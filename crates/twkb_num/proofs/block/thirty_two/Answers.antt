use Rattle.twkb_num.proofs.FoundLemmas.{marks_joined}
use Rattle.twkb_num.proofs.block.thirty_two.Goals as goal

pub returns-clause-marks : goal.returns-clause-marks
returns-clause-marks c = marks_joined c.args.at 16 c.args.alphabet.base c.args.bytes.now
    c.sixteen-low.result c.sixteen-high.result c.requires.long c.sixteen-low.ensures.marks c.sixteen-high.ensures.marks
