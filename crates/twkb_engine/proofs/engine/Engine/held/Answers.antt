use Rattle.twkb_num.proofs.VarintLemmas.{open_varint_is}
use Rattle.twkb_engine.proofs.engine.Engine.held.Goals as goal

pub returns-clause-begun : goal.returns-clause-begun
returns-clause-begun c = (open_varint_is c.args.self.now.held).1 c.len.ensures.held
