use Rattle.std.proofs.Common.{rules}
use Rattle.twkb_num.proofs.signed.zigzag.Goals as goal

pub returns-then-number-lt0 : goal.returns-then-number-lt0
returns-then-number-lt0 c = search rules
