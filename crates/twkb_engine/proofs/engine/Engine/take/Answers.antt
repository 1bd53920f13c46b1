use Rattle.std.proofs.Common.{rules}
use Rattle.twkb_engine.proofs.Steps.{x_noted}
use Rattle.twkb_engine.proofs.Items.{took}
use Rattle.twkb_engine.proofs.engine.Engine.take.Goals as goal

pub returns-in-X : goal.returns-in-X
returns-in-X g c = λ r says.
    took (search rules) (x_noted g.S.SpanNotes.holds r c.args.number c.args.width c.args.self.now c.x.new.self
    c.args.spans.now c.x.result c.in-X.is says c.x.ensures.begun) c.x.ensures.placed c.x.ensures.kept

pub returns-in-TypeByte : goal.returns-in-TypeByte
returns-in-TypeByte g c = λ r says.
    let t = c.type_byte.ensures c.args.flat.now in
    took (search rules) (search rules) (search rules) t.kept

pub returns-in-BoxNumber : goal.returns-in-BoxNumber
returns-in-BoxNumber g c = λ r says.
    let t = c.box_number.ensures c.args.number in
    took (search rules) (search rules) (search rules) t.kept
