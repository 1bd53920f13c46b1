use Rattle.std.proofs.Common.{rules}
use Rattle.twkb_rest.proofs.JoinEndLemmas.{changes_as, flushed, joined, stopped}
use Rattle.twkb_rest.proofs.joined_rest.unpack_rest.Goals as goal

pub returns-clause-ok : goal.returns-clause-ok
returns-clause-ok g c = joined g.R.Read.remaining g.Q.Read.remaining _ _ _ _ _ _ _
    (changes_as c.failures-failures.result c.failures.result _ _ c.failures-failures.ensures c.failures.ensures)
    c.finish.ensures.finishes c.send_all-sending.ensures.sends (search rules) (search rules) (search rules)
    (search rules) (search rules) (search rules) (search rules) (search rules)

pub returns-clause-err : goal.returns-clause-err
returns-clause-err g c = stopped g.R.Read.remaining g.Q.Read.remaining _ _ _ _ _ _ _
    (changes_as c.failures-failures.result c.failures.result _ _ c.failures-failures.ensures c.failures.ensures)
    c.finish.ensures.finishes c.send_all-sending.ensures.sends (search rules) (search rules) (search rules)
    (search rules) (search rules) (search rules) (search rules) (search rules)

pub returns-clause-flushed : goal.returns-clause-flushed
returns-clause-flushed g c = flushed _ _ _ c.finish.ensures.finishes c.send_all-sending.ensures.sends (search rules)
