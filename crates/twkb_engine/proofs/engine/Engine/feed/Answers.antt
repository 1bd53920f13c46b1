use Rattle.std.proofs.Common.{◌≡◌, length, sym, ap, subst, arith, Ok}
use Rattle.twkb_engine.specs.Standing.{FedBy, IsReady}
use Rattle.twkb_engine.proofs.engine.Engine.feed.Goals as goal

pub returns-then-used-gt0-clause-fed : goal.returns-then-used-gt0-clause-fed
returns-then-used-gt0-clause-fed g c = c.in_ok-used.ensures.made c.if-used-gt0.true

pub feed_items-requires : goal.feed_items-requires
feed_items-requires g c =
    let zero : c.in_ok-used.used ≡ 0 = omega (arith, c.if-used-gt0.false) in
    let same = c.in_ok-used.ensures.same (ap (λ n. Ok n) zero) in
    subst (λ d. IsReady c.take_root.new.flat d (length c.args.piece.now)) (sym same.0)
    (subst (λ l. IsReady l c.args.self.now (length c.args.piece.now)) (sym same.1)
    (record { room = c.requires.room; alive = c.requires.alive }))

pub returns-clause-fed : goal.returns-clause-fed
returns-clause-fed g c =
    let zero : c.in_ok-used.used ≡ 0 = omega (arith, c.if-used-gt0.false) in
    let same = c.in_ok-used.ensures.same (ap (λ n. Ok n) zero) in
    subst (λ d. FedBy g.S.SpanNotes.holds d c.args.flat.now c.args.spans.now c.args.piece.now
    c.feed_items.result c.feed_items.new.self c.feed_items.new.flat c.feed_items.new.spans)
    same.0
    (subst (λ l. FedBy g.S.SpanNotes.holds c.take_root.new.self l c.args.spans.now c.args.piece.now
    c.feed_items.result c.feed_items.new.self c.feed_items.new.flat c.feed_items.new.spans)
    same.1
    (subst (λ o. FedBy g.S.SpanNotes.holds c.take_root.new.self c.take_root.new.flat o
    c.args.piece.now c.feed_items.result c.feed_items.new.self c.feed_items.new.flat
    c.feed_items.new.spans) same.2 c.feed_items.ensures.answer.fed))
