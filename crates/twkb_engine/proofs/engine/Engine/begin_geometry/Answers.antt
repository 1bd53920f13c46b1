use Rattle.std.proofs.Common.{◌<◌, ◌^◌, length, subst, OnOk}
use Rattle.twkb_grammar.specs.Noting.{Notes, note_header}
use Rattle.twkb_engine.proofs.Parts.{begun_noted, few_open}
use Rattle.twkb_engine.proofs.engine.Engine.begin_geometry.Goals as goal

pub returns-clause-noted : goal.returns-clause-noted
returns-clause-noted g c =
    let d = c.args.self.now in
    let holds = g.S.SpanNotes.holds in
    begun_noted holds c.args.spans.now c.begin.new.self d _ c.begin.result
    (subst (λ o. OnOk c.begin.result ((w : Notes) → length w.begun < 2 ^ 32
    → holds c.args.spans.now w → holds c.begin.new.self (note_header o d.points c.args.byte w)))
    c.offset.ensures c.begin.ensures) (few_open d c.requires)
