use Rattle.std.proofs.Common.{◌≡◌, Ok, true, rules}
use Rattle.twkb_blob.proofs.Answering.{few_taken, past_blob}
use Rattle.twkb_blob.proofs.session.Session.feed_from.Goals as goal

pub invariant_of-self : goal.invariant_of-self
invariant_of-self g c =
    let found : c.read_with-found.result ≡ Ok true = search rules in
    let k = past_blob c.read_with-found.result found c.read_with-found.ensures in
    record { taken_few = λ live. few_taken k; alive = λ live. k.alive }
