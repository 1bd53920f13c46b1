use Rattle.twkb_hex.specs.Fields.{Unpacked}
use Rattle.twkb_hex.proofs.AnswerLemmas.{row_missed}
use Rattle.twkb_hex.proofs.unpacked_records.next_row.Goals as goal

pub returns-in-Err : goal.returns-in-Err
returns-in-Err g c = record {
  next = row_missed (Unpacked c.args.unpacking.now c.args.limits.now) c.args.place c.args.width
      c.args.number
      g.R.Read.remaining _ _ _ c.in-Err.stop _
      (rw c.if-not-branch.false at c.in_ok-read_next.ensures.ok) c.in-Err.ensures.err c.cause_at.ensures;
}
