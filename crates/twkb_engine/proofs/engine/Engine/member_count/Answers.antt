use Rattle.std.proofs.Common.{◌∙◌, ◌+◌, ◌<◌, Ok, refl, sym, ap, subst, arith, rules}
use Rattle.std.specs.Prelude.{if◌then◌else◌}
use Rattle.twkb_body.specs.Growing.{Nothing, Admits}
use Rattle.twkb_body.specs.Reading.{open_count}
use Rattle.twkb_engine.specs.State.{stage_at}
use Rattle.twkb_engine.specs.Collections.{frames_of}
use Rattle.twkb_engine.specs.Taking.{own_row, count_role}
use Rattle.twkb_engine.proofs.Items.{alive_room, takes, took, takes_on, takes_none}
use Rattle.twkb_engine.proofs.Parts.{count_none, count_some, count_nodes, count_begins, open_after, sums_as}
use Rattle.twkb_engine.proofs.Steps.{quiet_noted}
use Rattle.twkb_engine.proofs.engine.Engine.member_count.Goals as goal

pub end_empty-requires-clause-row : goal.end_empty-requires-clause-row
end_empty-requires-clause-row g c =
    (count_none c.requires (search rules) (search rules)).admits

pub returns-then-count-eq0 : goal.returns-then-count-eq0
returns-then-count-eq0 g c =
    took (takes (count_none c.requires (search rules) (search rules)) _ _ _ _
    (sums_as refl refl (count_nodes c.args.self.now c.args.count)
    (ap (λ x. c.args.self.now.points + x) c.member_points-points.ensures)) refl refl c.end_empty.ensures.landed)
    (search rules) (search rules) (search rules)

pub begin_ids_or_members-requires-clause-row : goal.begin_ids_or_members-requires-clause-row
begin_ids_or_members-requires-clause-row g c = λ bare.
    subst (λ b. Admits (if b then Nothing else own_row c.args.self.now) c.args.flat.now) bare
    (count_some c.requires (search rules) (omega (arith, c.if-count-eq0.false))).admits

pub begin_ids_or_members-requires-clause-room : goal.begin_ids_or_members-requires-clause-room
begin_ids_or_members-requires-clause-room g c = alive_room c.args.flat.now c.args.self.now c.requires.alive

pub returns-in_err-begin_ids_or_members : goal.returns-in_err-begin_ids_or_members
returns-in_err-begin_ids_or_members g c =
    let some : 0 < c.args.count = omega (arith, c.if-count-eq0.false) in
    took (takes_none (count_some c.requires (search rules) some) _ _ _ c.from_residual.ensures.1
    (count_begins c.args.self.now some).pass)
    (search rules) (search rules) (search rules)

pub returns : goal.returns
returns g c =
    let d = c.args.self.now in
    let b = c.in_ok-begin_ids_or_members.ensures in
    let some : 0 < c.args.count = omega (arith, c.if-count-eq0.false) in
    took (takes_on (count_some c.requires (search rules) some) (ap Ok (sym b.step))
    (b.sums ∙ sums_as refl refl (count_nodes d c.args.count) (ap (λ x. d.points + x)
    c.member_points-points.ensures)) b.rows (record { limits = b.stays.limits; start = b.stays.start }))
    (quiet_noted g.S.SpanNotes.holds (count_role d) c.args.count c.args.width d c.begin_ids_or_members.new.self
    c.args.spans.now tt (open_after d c.begin_ids_or_members.new.self b.step (count_begins d some)
    (ap (λ i. open_count (frames_of d.collections, stage_at i d)) c.requires.next)))
    (search rules) (search rules)
