use Rattle.std.proofs.Common.{◌≡◌, true, false, rules}
use Rattle.twkb_writer.proofs.PutLemmas.{put_none, put_join}
use Rattle.twkb_writer.proofs.rows.put_members.Goals as goal

pub returns-then-not-members-clause-put : goal.returns-then-not-members-clause-put
returns-then-not-members-clause-put g c =
    let unnamed : c.args.members.named ≡ false = search rules in
    rw unnamed (put_join c.put_number.ensures
    (put_none _))

pub returns-clause-put : goal.returns-clause-put
returns-clause-put g c =
    let named : c.args.members.named ≡ true = search rules in
    rw named (put_join c.put_number.ensures c.put_ids.ensures.put)
