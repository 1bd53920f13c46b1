use Rattle.std.proofs.Common.{rules}
use Rattle.twkb_hex.proofs.FlushLemmas.{changes_as, when_err, when_ok}
use Rattle.twkb_hex.proofs.ResultLemmas.{converted_with, stopped_with}
use Rattle.twkb_hex.proofs.packed_records.pack_hex.Goals as goal

pub returns-clause-ok : goal.returns-clause-ok
returns-clause-ok g c = when_ok c.finish.result _ (λ report is. converted_with g.R.Read.remaining _ _ _ _ _ _
    (changes_as c.failures-failures.result c.failures.result _ _ c.failures-failures.ensures c.failures.ensures)
    (rw c.after_reads-answer.ensures at c.finish.ensures.finishes) c.send_all-sending.ensures.sends
    (search rules) (search rules) (search rules) report is)

pub returns-clause-err : goal.returns-clause-err
returns-clause-err g c = when_err c.finish.result _ (λ fault is. stopped_with g.R.Read.remaining _ _ _ _ _ _
    (changes_as c.failures-failures.result c.failures.result _ _ c.failures-failures.ensures c.failures.ensures)
    (rw c.after_reads-answer.ensures at c.finish.ensures.finishes) c.send_all-sending.ensures.sends
    (search rules) (search rules) (search rules) fault is)
