use Rattle.std.proofs.Common.{◌≡◌, ◌-◌, ◌∙◌, [], suc, false, Some, None, sym, ap, rules}
use Rattle.std.specs.Prelude.{if◌then◌else◌}
use Rattle.twkb_grammar.specs.Bits.{bit}
use Rattle.twkb_body.specs.Growing.{Nothing, applied}
use Rattle.twkb_body.specs.Header.{head_of, many_of}
use Rattle.twkb_engine.specs.Collections.{frames_of}
use Rattle.twkb_engine.specs.Taking.{own_row}
use Rattle.twkb_engine.proofs.Parts.{counted_bare, open_at}
use Rattle.twkb_engine.proofs.engine.Engine.begin_ids_or_members.Goals as goal

pub returns-clause-step : goal.returns-clause-step
returns-clause-step c =
    let d = c.args.self.now in
    let bare : bit d.head.metadata 2 ≡ false = search rules in
    let none = c.restart.ensures.ids ∙ ap (λ b. if b then Some [] else None) c.if-has_ids.false in
    c.in_ok-begin_members.ensures.step
    ∙ (ap (λ ids. open_at d ids (suc (c.args.count - 1))) none ∙ counted_bare (many_of d.head.kind)
    (head_of d.head) (frames_of d.collections) c.args.count c.requires.some bare)

pub returns-clause-rows : goal.returns-clause-rows
returns-clause-rows c =
    let bare : bit c.args.self.now.head.metadata 2 ≡ false = search rules in
    c.in_ok-begin_members.ensures.rows ∙ ap (λ b. applied (if b then Nothing else own_row
    c.args.self.now) c.args.flat.now) (sym bare)
