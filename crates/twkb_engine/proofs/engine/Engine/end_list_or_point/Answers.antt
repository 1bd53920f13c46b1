use Rattle.std.proofs.Common.{rules}
use Rattle.twkb_engine.proofs.Parts.{goes, none_ended}
use Rattle.twkb_engine.proofs.Points.{body_inside}
use Rattle.twkb_engine.proofs.engine.Engine.end_list_or_point.Goals as goal

pub end_geometry-requires-clause-inside : goal.end_geometry-requires-clause-inside
end_geometry-requires-clause-inside g c = body_inside c.args.self.now.next c.requires.body

pub returns-then-ends_with_list-clause-ended : goal.returns-then-ends_with_list-clause-ended
returns-then-ends_with_list-clause-ended g c = λ rs.
    rw (c.ends_with_list.ensures.ends c.if-ends_with_list.true) (c.end_geometry.ensures.ended rs)

pub returns-clause-ended : goal.returns-clause-ended
returns-clause-ended g c = λ rs.
    let d = c.args.self.now in
    let t = c.end_list.ensures in
    goes (search rules) (λ w are held. none_ended g.S.SpanNotes.holds c.args.spans.now d c.end_list.new.self w
    (body_inside d.next c.requires.body) t.inside t.same are held) t.placed (search rules)
