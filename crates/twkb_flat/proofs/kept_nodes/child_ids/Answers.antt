use Rattle.std.proofs.Common.{◌+◌, ◌∙◌, ap, Some, Bool, arith}
use Rattle.twkb_flat.proofs.FlatOpenLemmas.{ids_there, no_ids}
use Rattle.twkb_flat.proofs.kept_nodes.child_ids.Goals as goal

pub returns-then-next-kept : goal.returns-then-next-kept
returns-then-next-kept c = λ points. no_ids c.args.kept.now points (c.args.at + 1) c.if-next-kept.true

pub returns : goal.returns
returns c = λ points. ap (λ (b : Bool). Some b) c.is_some.ensures
    ∙ ids_there c.args.kept.now points (c.args.at + 1) _
    (omega (arith, c.requires, c.if-next-kept.false))
