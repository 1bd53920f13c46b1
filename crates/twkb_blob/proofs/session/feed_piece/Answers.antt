use Rattle.std.proofs.Common.{length, take, arith, inl, inr}
use Rattle.std.proofs.lemmas.List.{length-take}
use Rattle.twkb_engine.specs.State.{allowance_of}
use Rattle.twkb_engine.specs.Standing.{offset_in}
use Rattle.twkb_blob.proofs.Leading.{all_used, are_cut_off, cut_feeds, stopped, too_far}
use Rattle.twkb_blob.proofs.session.feed_piece.Goals as goal

pub returns-then-count-piece : goal.returns-then-count-piece
returns-then-count-piece g c =
    let e = c.feed.new.self in
    too_far c.in-Ok.used c.min-count.result c.in-Ok.ends c.if-not-ends.true c.in-Ok.ensures.all
    c.in-Ok.ensures.fed
    (omega (arith, c.min-count.ensures, c.requires.few, c.offset.ensures, c.held.ensures.held, c.if-count-piece.true))
    (omega (arith, c.if-count-piece.true)) c.feed.ensures.limits
    (λ bs rs s. are_cut_off (allowance_of e) bs (offset_in e) c.is_between-learnt.result
    (c.is_between-learnt.ensures.ended bs rs s))

pub returns-else-not-ends : goal.returns-else-not-ends
returns-else-not-ends g c =
    let count = c.min-count.result in
    let cut = length-take count c.args.piece.now in
    cut_feeds count c.in-Ok.used c.in-Ok.ends
    (record { limits = c.feed.ensures.limits; fed = c.in-Ok.ensures.fed }) c.requires.alive
    (omega (arith, c.min-count.ensures, c.requires.few, c.offset.ensures, c.held.ensures.held))
    (λ off. elim c.else-not-ends.either [
      | inl h ↦ omega (
        arith,
        all_used c.in-Ok.used (length (take count c.args.piece.now)) c.in-Ok.ends c.in-Ok.ensures.all off,
        h.1,
        c.min-count.ensures,
        cut,
      )
      | inr on ↦ absurd (cc (on, off))
    ])

pub returns-in-Err : goal.returns-in-Err
returns-in-Err g c =
    rw c.fault_at.ensures (stopped c.min-count.result c.in-Err.stop
    (record { limits = c.feed.ensures.limits; fed = c.in-Err.ensures.fed })
    (omega (arith, c.start-start.ensures, c.bytes.ensures)))
