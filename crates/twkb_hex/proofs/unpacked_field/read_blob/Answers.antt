use Rattle.std.specs.Prelude.{⊤}
use Rattle.twkb_hex.proofs.BlobLemmas.{blob_cut, item_refused, made_in}
use Rattle.twkb_hex.proofs.unpacked_field.read_blob.Goals as goal

pub returns-in-Ok-default-true-clause-ok : goal.returns-in-Ok-default-true-clause-ok
returns-in-Ok-default-true-clause-ok c = made_in c.args.limits.now c.args.bytes.now c.new-engine.ensures.stands
    c.clear.ensures c.new-engine.ensures.limits (λ _ _. ⊤) c.feed.new.self
    c.feed.new.flat c.feed.new.spans c.feed.new.spans c.in-Ok-default-true.used c.in-Ok-default-true.field-0-1
    c.in-Ok-default-true.field-0-1-test c.in-Ok-default-true.ensures.fed

pub returns-in-Ok-default-false-clause-err : goal.returns-in-Ok-default-false-clause-err
returns-in-Ok-default-false-clause-err c = rw c.refused_at.ensures (blob_cut c.args.limits.now c.args.bytes.now
    c.new-engine.ensures.stands c.clear.ensures c.new-engine.ensures.limits (λ _ _. ⊤) c.feed.new.self
    c.feed.new.flat c.feed.new.spans c.feed.new.spans c.in-Ok-default-false.field-0-0
    c.in-Ok-default-false.field-0-1 c.is_between-learnt.result c.in-Ok-default-false.field-0-1-test c.requires
    c.in-Ok-default-false.ensures.all c.in-Ok-default-false.ensures.fed c.feed.ensures.limits
    c.is_between-learnt.ensures.ended)

pub returns-in-Err-Refused-clause-err : goal.returns-in-Err-Refused-clause-err
returns-in-Err-Refused-clause-err c = rw c.refused_at-in-Err-Refused.ensures (item_refused c.args.limits.now
    c.args.bytes.now c.new-engine.ensures.stands c.clear.ensures c.new-engine.ensures.limits _ _
    (rw c.in-Err-Refused.field-0-is at c.in-Err-Refused.ensures.fed))
