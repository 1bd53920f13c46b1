use Rattle.std.proofs.Common.{arith}
use Rattle.twkb_num.proofs.VarintLemmas.{open_varint_is}
use Rattle.twkb_engine.proofs.Items.{at_end, cut_end}
use Rattle.twkb_engine.proofs.engine.Engine.is_between.Goals as goal

pub returns-then-len-eq0-clause-ended : goal.returns-then-len-eq0-clause-ended
returns-then-len-eq0-clause-ended c = λ bs rs s. at_end bs rs c.args.self.now s
    (omega (arith, c.len.ensures.count, c.if-len-eq0.true))

pub returns-else-len-eq0-clause-ended : goal.returns-else-len-eq0-clause-ended
returns-else-len-eq0-clause-ended c = λ bs rs s. cut_end bs rs c.args.self.now s
    ((open_varint_is c.args.self.now.held).1 c.len.ensures.held) c.len.result c.len.ensures.count
    (omega (arith, c.if-len-eq0.false))
