use Rattle.std.proofs.Common.{◌-◌, arith}
use Rattle.twkb_flat.proofs.FlatOpenLemmas.{last_level}
use Rattle.twkb_flat.proofs.flat.Flat.levels.Goals as goal

pub returns-clause-value : goal.returns-clause-value
returns-clause-value c = last_level c.args.self.now (c.node_count-count.result - 1) c.row.result
    (omega (arith, c.node_count-count.ensures.value, c.if-count-eq0.false)) c.row.ensures.row
