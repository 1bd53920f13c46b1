use Rattle.twkb_num.proofs.VarintLemmas.{total_is, total_fits}
use Rattle.twkb_num.proofs.varint_lens.VarintLens.total.Goals as goal

pub overflow_add-result : goal.overflow_add-result
overflow_add-result c =
    total_fits _ _ _ (total_is c.self.inside.lanes c.from.result c.self.inside.others
    c.args.self.now c.self.invariant c.from.ensures c.self.view_is c.requires) c.requires

pub returns : goal.returns
returns c = total_is c.self.inside.lanes c.from.result c.self.inside.others c.args.self.now
    c.self.invariant c.from.ensures c.self.view_is c.requires
