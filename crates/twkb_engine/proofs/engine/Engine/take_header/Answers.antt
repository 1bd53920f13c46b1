use Rattle.std.proofs.Common.{◌≡◌, ◌<◌, ◌≤◌, ◌-◌, ◌+◌, ◌%◌, ◌/◌, ◌∙◌, length, sym, ap, subst, rules}
use Rattle.std.specs.Prelude.{get_or, if◌then◌else◌}
use Rattle.twkb_num.specs.Spelling.{unzigzag_of}
use Rattle.twkb_grammar.specs.Fault.{announces_point}
use Rattle.twkb_grammar.specs.Machine as machine
use Rattle.twkb_grammar.specs.Machine.{kind_at, kind_number}
use Rattle.twkb_body.specs.Outline.{begins}
use Rattle.twkb_body.specs.Growing.{id_in}
use Rattle.twkb_body.proofs.PointRuns.{on_err}
use Rattle.twkb_body.specs.HeaderParts.{sized_head}
use Rattle.twkb_body.specs.Header.{kind_of, IsHeadAt}
use Rattle.twkb_body.specs.declared.head.Head as place
use Rattle.twkb_engine.specs.Collections.{frames_of}
use Rattle.twkb_engine.proofs.Parts.{leads_nowhere, kind_shown, stage_kind, stage_precision, any_placed, type_stops}
use Rattle.twkb_engine.proofs.Parts.{header_leads, sums_as}
use Rattle.twkb_engine.proofs.engine.Engine.take_header.Goals as goal

pub returns-in_default-clause-led : goal.returns-in_default-clause-led
returns-in_default-clause-led g c = λ rs. leads_nowhere g.S.SpanNotes.holds rs c.args.self.now c.args.spans.now

pub returns-then-points-from-clause-led : goal.returns-then-points-from-clause-led
returns-then-points-from-clause-led g c = λ rs. leads_nowhere g.S.SpanNotes.holds rs c.args.self.now c.args.spans.now

pub returns-in_err-begin_geometry-clause-memory : goal.returns-in_err-begin_geometry-clause-memory
returns-in_err-begin_geometry-clause-memory g c = λ rs.
    let low : get_or c.args.rest.now 0 0 < 256 = search rules in
    on_err c.from_residual.result (type_stops c.args.self.now rs c.args.rest.now c.in-Some.header
    c.requires.next c.requires.alone c.in-Some.ensures low)

pub returns-clause-led : goal.returns-clause-led
returns-clause-led g c = λ rs front s.
    let d = c.args.self.now in
    let rest = c.args.rest.now in
    let h = c.in-Some.header in
    let low : get_or rest 0 0 < 256 = search rules in
    let low_meta : get_or rest 1 0 < 256 = search rules in
    let kind = kind_at (h.type_byte % 16) in
    let points = c.from-points.result in
    let one : points ≡ (if announces_point (kind_number (kind_of c.kind.result)) h.metadata then 1
    else 0) = search rules in
    let announced : points ≡ (if announces_point (kind_number kind) h.metadata then 1 else 0) =
    one ∙ ap (λ k. if announces_point (kind_number k) h.metadata then 1 else 0)
    (ap kind_of c.kind.ensures ∙ kind_shown kind) in
    let few : points ≤ d.limits.points - d.points = search rules in
    let b = c.in_ok-begin_geometry.ensures in
    let t = c.set_metadata.ensures in
    let last = c.go_to_body.ensures in
    let sm = c.set_metadata.new.self in
    let e = c.go_to_body.new.self in
    let collections : sm.collections ≡ d.collections = t.same.collections ∙ b.same.collections in
    let bytes : sm.bytes ≡ d.bytes = t.same.bytes ∙ b.same.bytes in
    let kind_is : kind_of sm.head.kind ≡ kind = ap kind_of t.kind ∙ ap stage_kind b.step in
    let precision : sm.head.precision ≡ unzigzag_of (h.type_byte / 16) =
    ap (λ (x : machine.Head). x.precision) t.head ∙ ap stage_precision b.step in
    let meta : sm.head.metadata ≡ h.metadata = ap (λ (x : machine.Head). x.meta) t.head in
    let at : IsHeadAt (length (frames_of sm.collections)) (id_in (frames_of sm.collections)) e.head =
    record {
      depth_is = ap (λ (x : place.Head). x.depth) last.head ∙ t.placed.depth_is;
      id_is = ap (λ (x : place.Head). x.id) last.head ∙ t.placed.id_is;
    } in
    let placed = any_placed e.next e
    (subst (λ cs. IsHeadAt (length (frames_of cs)) (id_in (frames_of cs)) e.head)
    (sym last.collections) at) in
    header_leads d rs rest h c.requires.next c.requires.alone c.in-Some.ensures low front s low_meta
    points announced few g.S.SpanNotes.holds c.args.spans.now c.begin_geometry.new.spans
    c.set_metadata.new.spans e
    (last.stays.limits ∙ (t.same.limits ∙ b.same.limits))
    (last.stays.held ∙ (t.same.held ∙ (b.same.held ∙ c.requires.alone)))
    (last.stays.start ∙ (t.same.start ∙ b.same.start)) placed
    (last.sums ∙ sums_as (ap (λ x. x + h.used) bytes) (t.position ∙ b.position)
    (t.same.nodes ∙ b.same.nodes) (t.same.points ∙ ap (λ x. x + points) b.same.points))
    (last.step ∙ (λ i. (
      frames_of (collections i),
      begins (kind_is i) (sized_head (precision i) (meta i) h.parts.size (bytes i + h.from)),
    )))
    b.noted t.told
