use Rattle.std.proofs.Common.{arith, refl}
use Rattle.std.specs.Prelude.{⊤}
use Rattle.twkb_blob.proofs.Leading.{byte_feeds, byte_stopped}
use Rattle.twkb_blob.proofs.Answering.{alive_with, fed_err, fed_ok}
use Rattle.twkb_blob.proofs.session.Session.feed_apart.Goals as goal
use Rattle.twkb_blob.proofs.session.Session.feed_apart.Goals.{then-self-2, else-self-2}

pub take_byte-requires-clause-alive : goal.take_byte-requires-clause-alive
take_byte-requires-clause-alive c = alive_with c.args.self.now c.if-self.false
    (elim c.if-self-2.branch [
      | then-self-2 w ↦ rw (w.self-is, w.if-self-2.true) w.clear.ensures
      | else-self-2 w ↦ rw (w.self-is, w.if-self-2.false) refl
    ])

pub feed_piece-requires-clause-alive : goal.feed_piece-requires-clause-alive
feed_piece-requires-clause-alive c = alive_with c.args.self.now c.if-self.false
    (elim c.if-self-2.branch [
      | then-self-2 w ↦ rw (w.self-is, w.if-self-2.true) w.clear.ensures
      | else-self-2 w ↦ rw (w.self-is, w.if-self-2.false) refl
    ])

pub invariant_of-self : goal.invariant_of-self
invariant_of-self c =
    let f = byte_feeds {holds = λ _ _. ⊤} {old = c.take_byte.new.spans} {new = c.take_byte.new.spans} c.in-Ok.ends
    c.take_byte.ensures.limits c.if-piece-eq1.true refl c.in-Ok.ensures.fed
    (alive_with c.args.self.now c.if-self.false
    (elim c.if-self-2.branch [
      | then-self-2 w ↦ rw (w.self-is, w.if-self-2.true) w.clear.ensures
      | else-self-2 w ↦ rw (w.self-is, w.if-self-2.false) refl
    ]))
    (let held = c.held-learnt.ensures in
    omega (arith, c.offset.ensures, c.if-offset.true, held.held, held.few)) in
    record { taken_few = λ live. f.few; alive = λ live. f.alive }

pub returns-in-Ok-clause-fed : goal.returns-in-Ok-clause-fed
returns-in-Ok-clause-fed c = λ bytes gs s.
    fed_ok s _ c.in-Ok.ends (byte_feeds {holds = λ _ _. ⊤} {old = c.take_byte.new.spans} {new = c.take_byte.new.spans}
    c.in-Ok.ends c.take_byte.ensures.limits c.if-piece-eq1.true refl c.in-Ok.ensures.fed
    (alive_with c.args.self.now c.if-self.false
    (elim c.if-self-2.branch [
      | then-self-2 w ↦ rw (w.self-is, w.if-self-2.true) w.clear.ensures
      | else-self-2 w ↦ rw (w.self-is, w.if-self-2.false) refl
    ]))
    (let held = c.held-learnt.ensures in
    omega (arith, c.offset.ensures, c.if-offset.true, held.held, held.few)))
    c.if-self.false refl
    (elim c.if-self-2.branch [
      | then-self-2 w ↦ rw (w.self-is, w.if-self-2.true) w.clear.ensures
      | else-self-2 w ↦ rw (w.self-is, w.if-self-2.false) refl
    ])

pub returns-in-Err-clause-fed : goal.returns-in-Err-clause-fed
returns-in-Err-clause-fed c = λ bytes gs s.
    rw c.fault_at.ensures (fed_err s _ _ (byte_stopped {holds = λ _ _. ⊤} {old = c.take_byte.new.spans}
    {new = c.take_byte.new.spans} c.in-Err.stop c.take_byte.ensures.limits c.if-piece-eq1.true refl c.in-Err.ensures.fed
    (omega (arith, c.start-began.ensures, c.bytes.ensures))) c.take_byte.ensures.limits
    (elim c.if-self-2.branch [
      | then-self-2 w ↦ rw (w.self-is, w.if-self-2.true) w.clear.ensures
      | else-self-2 w ↦ rw (w.self-is, w.if-self-2.false) refl
    ]))

pub returns-in-Ok-feed_piece-clause-fed : goal.returns-in-Ok-feed_piece-clause-fed
returns-in-Ok-feed_piece-clause-fed c = λ bytes gs s.
    fed_ok s _ c.in-Ok-feed_piece.ends c.in-Ok-feed_piece.ensures c.if-self.false refl
    (elim c.if-self-2.branch [
      | then-self-2 w ↦ rw (w.self-is, w.if-self-2.true) w.clear.ensures
      | else-self-2 w ↦ rw (w.self-is, w.if-self-2.false) refl
    ])

pub returns-in-Err-feed_piece-clause-fed : goal.returns-in-Err-feed_piece-clause-fed
returns-in-Err-feed_piece-clause-fed c = λ bytes gs s.
    fed_err s _ c.in-Err-feed_piece.fault c.in-Err-feed_piece.ensures c.feed_piece.ensures.limits
    (elim c.if-self-2.branch [
      | then-self-2 w ↦ rw (w.self-is, w.if-self-2.true) w.clear.ensures
      | else-self-2 w ↦ rw (w.self-is, w.if-self-2.false) refl
    ])
