use Rattle.std.proofs.Common.{◌∙◌, ◌+◌, ap, arith, refl}
use Rattle.twkb_arrays.specs.declared.sent_blobs.Sent.{Sent}
use Rattle.twkb_arrays.proofs.WritingLemmas.{lacks_room, sent_one}
use Rattle.twkb_arrays.proofs.sent_blobs.send_blob.Goals as goal

pub returns-then-blob-sent-clause-lacks : goal.returns-then-blob-sent-clause-lacks
returns-then-blob-sent-clause-lacks c = λ is style start start_ends given later g h same.
    lacks_room h g same c.if-blob-sent.true

pub returns-clause-sends : goal.returns-clause-sends
returns-clause-sends c = λ is style start start_ends given later g h same.
    sent_one h g same c.requires.some (omega (arith, c.if-blob-sent.false)) c.put_from.ensures c.note_end.ensures.none
    c.note_end.ensures.put
    (ap (λ (t : Sent). t.done + 1) c.note_end.ensures.counts) (ap (λ (t : Sent). t.bytes) c.note_end.ensures.counts)
    (ap (λ (t : Sent). t.passed) c.note_end.ensures.counts)
    (ap (λ (t : Sent). t.passed_bytes) c.note_end.ensures.counts) c.note_end.ensures.limits
