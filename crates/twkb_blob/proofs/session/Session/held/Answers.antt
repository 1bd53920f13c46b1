use Rattle.twkb_blob.specs.Sessions.{begun_rows}
use Rattle.twkb_blob.proofs.Counts.{held_told}
use Rattle.twkb_blob.proofs.session.Session.held.Goals as goal

pub returns-clause-held : goal.returns-clause-held
returns-clause-held c = λ bytes gs s.
    let learnt = c.is_between-learnt in rw c.held.ensures.held
    (held_told s learnt.result (learnt.ensures.ended s.rest
    (begun_rows c.args.self.now) s.begun))
