use Rattle.std.proofs.Common.{◌≡◌, Ok, inl, inr, refl, rules, true}
use Rattle.twkb_blob.proofs.Answering.{both, spans_read}
use Rattle.twkb_blob.proofs.stream_reader.StreamReader.next_spans.Goals as goal

pub returns-in-Ok-true : goal.returns-in-Ok-true
returns-in-Ok-true g c = spans_read c.in-Ok-true.ensures.shared c.in-Ok-true.ensures.into (λ e. refl)
    (inl (rw c.in-Ok-true.field-0-test refl))

pub returns : goal.returns
returns g c =
    let same : c.match-found.found ≡ c.feed_from-found.result = search rules in
    let other : c.feed_from-found.result ≡ Ok true → ⊥ = search rules in
    rw same (spans_read c.feed_from-found.ensures.shared c.feed_from-found.ensures.into (λ e. absurd (other e))
    (both c.feed_from-found.ensures.cleared (inr c.clear.ensures)))
