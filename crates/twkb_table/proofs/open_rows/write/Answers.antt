use Rattle.std.proofs.Common.{sym}
use Rattle.twkb_table.proofs.RowReaderLemmas.{row_written, as_entered}
use Rattle.twkb_table.proofs.open_rows.write.Goals as goal

pub returns-then-depth-gt0-clause-opened : goal.returns-then-depth-gt0-clause-opened
returns-then-depth-gt0-clause-opened c = λ r k id.
    row_written c.args.places.now c.args.depth r _ _ c.with_child.result c.args.has_id
    c.if-depth-gt0.true c.requires (as_entered r c.args.kind k) c.with_child.ensures (sym id)
