use Rattle.std.proofs.Common.{rules, ◌≡◌, ◌∙◌, ◌++◌, ◌∷◌, [], ap, refl, sym, subst, arith, inr, append-nil}
use Rattle.std.proofs.Math.Logic.{∥∥₁_map}
use Rattle.twkb_num.proofs.VarintLemmas.{varint_is}
use Rattle.twkb_grammar.specs.Reading.{Gives}
use Rattle.twkb_body.proofs.InFront.{refused_is_long}
use Rattle.twkb_engine.specs.Fits.{IsByte}
use Rattle.twkb_engine.specs.Standing.{held_in}
use Rattle.twkb_engine.proofs.Steps.{next_role, byte_written, all_whole, stands_else}
use Rattle.twkb_engine.proofs.Answering.{limits_kept, item_fed, number_fed, more_fed, byte_alone, long_refused}
use Rattle.twkb_engine.proofs.Answering.{not_both}
use Rattle.twkb_engine.proofs.engine.Engine.take_byte.Goals as goal

pub returns-then-is_byte-clause-fed : goal.returns-then-is_byte-clause-fed
returns-then-is_byte-clause-fed g c = λ bs s.
    let d = c.args.self.now in
    let byte : IsByte d.next = c.is_byte.ensures.0 c.if-is_byte.true in
    let none = byte_alone bs c.args.flat.now d byte s in
    let number : c.from.result ≡ c.args.byte = search rules in
    item_fed g.S.SpanNotes.holds bs c.args.flat.now c.take.new.flat d c.take.new.self c.args.spans.now
    c.take.new.spans bs (c.args.byte ∷ []) (c.args.byte ∷ []) c.from.result 1 s
    (subst (λ n. Gives (next_role d).0 n (c.args.byte ∷ [])) (sym number)
    (byte_written d c.args.byte c.ranges.byte.fits byte)) (omega arith) (omega arith)
    (ap (λ l. l ++ c.args.byte ∷ []) (sym (all_whole bs c.args.flat.now d none s)))
    none c.take.result (omega arith) c.take.ensures

pub take-requires-in-Done-clause-alive : goal.take-requires-in-Done-clause-alive
take-requires-in-Done-clause-alive g c = ∥∥₁_map c.requires.alive (λ s. (
  s.1.front,
  (stands_else s.0 s.1.front c.args.flat.now c.args.self.now _
      refl
      s.1 (sym (ap (λ l. s.1.front ++ l) c.in-Done.ensures.held ∙ append-nil s.1.front))
      (inr c.in-Done.ensures.held)).0,
))

pub returns-in-Done-clause-fed : goal.returns-in-Done-clause-fed
returns-in-Done-clause-fed g c = λ bs s.
    let d = c.args.self.now in
    number_fed g.S.SpanNotes.holds bs c.args.flat.now c.take-in-Done.new.flat d _
    c.take-in-Done.new.self c.args.spans.now c.take-in-Done.new.spans c.args.byte
    c.in-Done.value _ c.take-in-Done.result s
    refl
    c.in-Done.ensures.held (λ b. not_both c.is_byte.result c.if-is_byte.false
    (c.is_byte.ensures.1 b)) ((varint_is (held_in d ++ c.args.byte ∷ []) c.in-Done.value).1
    c.in-Done.ensures.answer.0)
    (omega (arith, c.len.ensures.count)) c.take-in-Done.ensures

pub returns-in-More-clause-fed : goal.returns-in-More-clause-fed
returns-in-More-clause-fed g c = λ bs s.
    more_fed g.S.SpanNotes.holds bs c.args.flat.now c.args.self.now _ c.args.spans.now c.args.byte s
    refl
    (λ b. not_both c.is_byte.result c.if-is_byte.false (c.is_byte.ensures.1 b)) c.in-More.ensures.held

pub returns-in-TooLong-clause-fed : goal.returns-in-TooLong-clause-fed
returns-in-TooLong-clause-fed g c = λ bs s.
    long_refused bs (c.args.byte ∷ []) 1 c.args.flat.now c.args.self.now s
    (λ b. not_both c.is_byte.result c.if-is_byte.false (c.is_byte.ensures.1 b)) (omega arith) (omega arith)
    (λ more. refused_is_long (held_in c.args.self.now) c.args.byte more c.len.ensures.held
    c.ranges.byte.fits c.in-TooLong.ensures.answer)

pub returns-then-is_byte-clause-limits : goal.returns-then-is_byte-clause-limits
returns-then-is_byte-clause-limits g c = limits_kept c.take.ensures

pub returns-in-Done-clause-limits : goal.returns-in-Done-clause-limits
returns-in-Done-clause-limits g c = limits_kept c.take-in-Done.ensures
