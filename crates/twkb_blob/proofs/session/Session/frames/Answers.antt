use Rattle.std.proofs.Common.{arith}
use Rattle.twkb_blob.proofs.Counts.{frames_few, frames_told}
use Rattle.twkb_blob.proofs.session.Session.frames.Goals as goal

pub returns-clause-open : goal.returns-clause-open
returns-clause-open c = λ bytes gs s.
    let between = c.is_between-learnt in
    frames_told s _ (omega arith) c.held-learnt.ensures.begun between.result between.ensures.ended

pub returns-clause-few : goal.returns-clause-few
returns-clause-few c = λ bytes gs s. omega (arith, frames_few s)
