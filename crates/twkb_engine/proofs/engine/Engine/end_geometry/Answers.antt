use Rattle.std.proofs.Common.{rules, ◌+◌, ◌-◌, ap, length, arith}
use Rattle.twkb_grammar.specs.Machine.{Sums}
use Rattle.twkb_engine.specs.Collections.{frames_of}
use Rattle.twkb_engine.proofs.Parts.{goes, all_ended, some_ended, end_noted}
use Rattle.twkb_engine.proofs.engine.Engine.end_geometry.Goals as goal

pub returns-in-Blob-clause-ended : goal.returns-in-Blob-clause-ended
returns-in-Blob-clause-ended g c = λ rs.
    let d = c.args.self.now in
    let l = c.loop-spans in
    goes (search rules) (λ w are held. end_noted g.S.SpanNotes.holds c.end.new.self w
    (length d.collections - length l.self.collections) (length w.begun - 0) (d.start + d.bytes)
    d.points c.offset.result l.self.points
    (omega (
      arith,
      c.offset.ensures,
      l.invariant.start,
      ap (λ (e : Sums). e.bytes) l.invariant.sums,
    )) (ap (λ (e : Sums). e.points) l.invariant.sums)
    (all_ended d w l.self.collections c.requires.inside are c.in-Blob.ensures.blob)
    (c.end.ensures _ (l.invariant.noted w held))) (search rules) (search rules)

pub returns-in-NextMember-clause-ended : goal.returns-in-NextMember-clause-ended
returns-in-NextMember-clause-ended g c = λ rs.
    let d = c.args.self.now in
    let l = c.loop-spans in
    goes (search rules) (λ w are held. end_noted g.S.SpanNotes.holds c.end.new.self w
    (length d.collections - length l.self.collections)
    (length w.begun - length (frames_of c.end_member.new.self)) (d.start + d.bytes) d.points
    c.offset.result l.self.points
    (omega (
      arith,
      c.offset.ensures,
      l.invariant.start,
      ap (λ (e : Sums). e.bytes) l.invariant.sums,
    )) (ap (λ (e : Sums). e.points) l.invariant.sums)
    (some_ended d w l.self.collections c.end_member.new.self c.requires.inside are l.invariant.few
    c.in-NextMember.ensures.same) (c.end.ensures _ (l.invariant.noted w held))) (search rules) (search rules)
