use Rattle.std.proofs.Common.{ap, arith}
use Rattle.twkb_tree.specs.Rows.{Row}
use Rattle.twkb_flat.proofs.FlatOpenLemmas.{some_at, by_test}
use Rattle.twkb_flat.proofs.flat.Flat.is_at.Goals as goal

pub returns : goal.returns
returns c =
    let here = some_at c.args.self.now c.args.at (omega
    (arith, c.if-at-node_count.false, c.node_count.ensures.value)) in
    by_test c.args.self.now c.args.at c.args.depth c.row.result.depth here.0 here.1 here.2
    (ap (λ (r : Row). r.depth) (c.row.ensures.row here.0 here.1 here.2))
