use Rattle.std.proofs.Common.{◌∙◌, refl}
use Rattle.twkb_arrays.proofs.writer.Writer.send.Goals as goal

pub returns-then-send_blob-clause-sends : goal.returns-then-send_blob-clause-sends
returns-then-send_blob-clause-sends c = λ style start start_ends given later g h counted same.
    c.if-send_blob.ensures.sends refl style start start_ends given later g h (c.blob.ensures ∙ same)

pub returns-clause-within : goal.returns-clause-within
returns-clause-within c =
    let kept = c.if-send_blob.ensures.same refl in
    rw (kept.0, kept.1) (c.pass.ensures.within c.args.output.now c.args.ends.now (rw kept.2 c.requires.within))

pub returns-clause-sends : goal.returns-clause-sends
returns-clause-sends c = λ style start start_ends given later g h counted same.
    let kept = c.if-send_blob.ensures.same refl in
    let lack = c.if-send_blob.ensures.lacks refl style start start_ends given later g h (c.blob.ensures ∙ same) in
    rw (kept.0, kept.1) (c.pass.ensures.passes style start start_ends c.args.output.now c.args.ends.now given later g
    (rw kept.2 h) counted same (rw kept.2 lack))
