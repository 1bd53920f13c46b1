use Rattle.std.proofs.Common.{◌∙◌, Ok, refl, sym, ap, arith}
use Rattle.twkb_body.specs.Reading.{open_count}
use Rattle.twkb_body.specs.Header.{head_of, many_of}
use Rattle.twkb_engine.specs.State.{stage_at}
use Rattle.twkb_engine.specs.Collections.{frames_of}
use Rattle.twkb_engine.proofs.Items.{alive_room, takes_on, takes_none}
use Rattle.twkb_engine.proofs.Parts.{sums_as, add_zero, id_leads, id_passes, id_more, id_last, members_begin}
use Rattle.twkb_engine.proofs.Parts.{open_after}
use Rattle.twkb_engine.proofs.engine.Engine.id.Goals as goal

pub returns-in_err-push_id-clause-taken : goal.returns-in_err-push_id-clause-taken
returns-in_err-push_id-clause-taken c =
    takes_none (id_leads c.requires) _ _ _ c.from_residual.ensures.1 (id_passes c.requires _)

pub returns-then-count-self-clause-taken : goal.returns-then-count-self-clause-taken
returns-then-count-self-clause-taken c =
    takes_on (id_more c.requires c.in_ok-push_id.ensures.pushed
    (omega (arith, c.count.ensures, c.if-count-self.true))) refl (sums_as refl refl (add_zero _)
    (add_zero _)) refl (record { limits = refl; start = refl })

pub begin_members-requires-clause-row : goal.begin_members-requires-clause-row
begin_members-requires-clause-row c =
    (id_last c.requires c.in_ok-push_id.ensures.pushed c.begin.ensures
    (omega (arith, c.count.ensures, c.if-count-self.false))).admits

pub begin_members-requires-clause-room : goal.begin_members-requires-clause-room
begin_members-requires-clause-room c = alive_room c.args.flat.now c.args.self.now c.requires.alive

pub returns-in_err-begin_members-clause-taken : goal.returns-in_err-begin_members-clause-taken
returns-in_err-begin_members-clause-taken c =
    takes_none (id_leads c.requires) _ _ _ c.from_residual-in_err-begin_members.ensures.1
    (id_passes c.requires _)

pub returns-clause-taken : goal.returns-clause-taken
returns-clause-taken c =
    let b = c.in_ok-begin_members.ensures in
    takes_on (id_last c.requires c.in_ok-push_id.ensures.pushed c.begin.ensures
    (omega (arith, c.count.ensures, c.if-count-self.false))) (ap Ok (sym b.step))
    (b.sums ∙ sums_as refl refl (add_zero _) (add_zero _)) b.rows
    (record { limits = b.stays.limits; start = b.stays.start })

pub returns-clause-begun : goal.returns-clause-begun
returns-clause-begun c =
    let d = c.args.self.now in
    open_after d c.begin_members.new.self c.in_ok-begin_members.ensures.step
    (members_begin (head_of d.head) (many_of d.head.kind) _ d.members_left)
    (ap (λ i. open_count (frames_of d.collections, stage_at i d)) c.requires.next)
