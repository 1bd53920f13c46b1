use Rattle.twkb_hex.proofs.AnswerLemmas.{header_missed}
use Rattle.twkb_hex.proofs.header.read_header.Goals as goal

pub returns-in-Err-clause-err : goal.returns-in-Err-clause-err
returns-in-Err-clause-err g c = header_missed c.args.name.now g.R.Read.remaining _ _ _ c.in-Err.stop _
    (rw c.if-not-branch.false at c.in_ok-read_next.ensures.ok) c.in-Err.ensures.err c.cause_at.ensures
