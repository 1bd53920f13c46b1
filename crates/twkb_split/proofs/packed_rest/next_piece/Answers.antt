use Rattle.std.proofs.Common.{arith}
use Rattle.twkb_split.proofs.AnswerLemmas.{many_missed, row_missed}
use Rattle.twkb_split.proofs.packed_rest.next_piece.Goals as goal

pub returns-in-Err-clause-next : goal.returns-in-Err-clause-next
returns-in-Err-clause-next g c = row_missed c.args.packing.now c.args.place c.args.width c.args.number
    g.R.Read.remaining _ _ _ c.in-Err.stop _
    (rw c.if-not-found.false at c.in-Ok.ensures) c.in-Err.ensures.err c.cause_at.ensures

pub returns-then-number-ge-RECORD_CAP-clause-next : goal.returns-then-number-ge-RECORD_CAP-clause-next
returns-then-number-ge-RECORD_CAP-clause-next g c = many_missed c.args.packing.now c.args.place c.args.width
    c.args.number g.R.Read.remaining _ _ _ (rw c.if-not-found.false at c.in-Ok.ensures)
    (omega (arith, c.if-number-ge-RECORD_CAP.true))
