use Rattle.twkb_hex.specs.Fields.{Packed}
use Rattle.twkb_hex.proofs.AnswerLemmas.{row_missed}
use Rattle.twkb_hex.proofs.packed_records.next_row.Goals as goal

pub returns-in-Err-clause-next : goal.returns-in-Err-clause-next
returns-in-Err-clause-next g c = row_missed (Packed c.args.packing.now c.args.limits.now) c.args.place c.args.width
    c.args.number
    g.R.Read.remaining _ _ _ c.in-Err.stop _
    (rw c.if-not-branch.false at c.in_ok-read_next.ensures.ok) c.in-Err.ensures.err c.cause_at.ensures
