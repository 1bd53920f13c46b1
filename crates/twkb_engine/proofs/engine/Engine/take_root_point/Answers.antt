use Rattle.std.proofs.Common.{rules, ◌+◌, ◌≡◌, ◌/◌, ◌∷◌, [], None, get_or, take, sym, ap, subst, arith}
use Rattle.twkb_num.specs.Spelling.{unzigzag_of}
use Rattle.twkb_tree.specs.Rows.{whole_row}
use Rattle.twkb_tree.specs.declared.kind.Kind.TheVariants as kind
use Rattle.twkb_grammar.specs.Noting.{no_notes}
use Rattle.twkb_engine.specs.Standing.{MadeIn}
use Rattle.twkb_body.proofs.PointRuns.{on_err}
use Rattle.twkb_engine.specs.Taking.{point_span}
use Rattle.twkb_engine.proofs.Steps.{point_blob, root_stops, root_fed}
use Rattle.twkb_engine.proofs.engine.Engine.take_root_point.Goals as goal

pub returns-in_err-put-clause-memory : goal.returns-in_err-put-clause-memory
returns-in_err-put-clause-memory g c =
    let d = c.args.self.now in
    let p = c.in-Some.point in
    on_err c.from_residual.result (root_stops c.args.flat.now d c.args.piece.now p.used _
    c.requires.none c.requires.alone
    (point_blob d.limits c.args.piece.now p.used p.size p.to d.allowed
    (omega (arith, c.points.ensures, c.if-points-eq0.false)) c.in-Some.ensures.point
    (search rules) c.in-Some.ensures.exact))

pub returns-in_err-begin_point-clause-memory : goal.returns-in_err-begin_point-clause-memory
returns-in_err-begin_point-clause-memory g c =
    let d = c.args.self.now in
    let p = c.in-Some.point in
    on_err c.from_residual-in_err-begin_point.result
    (root_stops c.args.flat.now d c.args.piece.now p.used _ c.requires.none c.requires.alone
    (point_blob d.limits c.args.piece.now p.used p.size p.to d.allowed
    (omega (arith, c.points.ensures, c.if-points-eq0.false)) c.in-Some.ensures.point
    (search rules) c.in-Some.ensures.exact))

pub returns-clause-made : goal.returns-clause-made
returns-clause-made g c = λ some bs s.
    let d = c.args.self.now in
    let p = c.in-Some.point in
    let made = point_blob d.limits c.args.piece.now p.used p.size p.to d.allowed
    (omega (arith, c.points.ensures, c.if-points-eq0.false)) c.in-Some.ensures.point
    (search rules) c.in-Some.ensures.exact in
    let row : c.begin_point.new.self ≡ whole_row 0 kind.Point None
    (unzigzag_of (get_or c.args.piece.now 0 0 / 16)) (p.to ∷ []) ∷ [] = search rules in
    let long : c.point_span-span.result.length ≡ p.used = search rules in
    let span : c.point_span-span.result ≡ point_span d.start (take p.used c.args.piece.now) =
    c.point_span-span.ensures in
    root_fed g.S.SpanNotes.holds bs c.args.piece.now c.args.flat.now c.begin_point.new.self d _
    c.args.spans.now c.put.new.self p.used p.to s c.requires.none c.requires.alone
    c.requires.alone
    (λ b. record {
      start = ap (λ n. d.start + n) long;
      next = b.next;
      bytes = b.bytes;
      nodes = b.nodes;
      points = b.points;
      position = b.position;
      collections = b.collections;
    })
    p.long (subst (MadeIn d.limits [] c.args.piece.now p.used) (sym row) made) row
    (subst (λ x. g.S.SpanNotes.holds c.args.spans.now no_notes
    → g.S.SpanNotes.holds c.put.new.self (record { spans = x ∷ []; begun = [] })) span
    c.in_ok-put.ensures)
