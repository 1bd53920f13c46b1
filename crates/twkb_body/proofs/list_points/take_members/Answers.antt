use Rattle.std.proofs.Common.{◌<◌, ◌∙◌, Bool, refl, sym, ap, subst, arith}
use Rattle.std.specs.Prelude.{is_some}
use Rattle.twkb_flat.specs.Taking.{EndsInMember}
use Rattle.twkb_flat.proofs.PushLemmas.{member_added}
use Rattle.twkb_body.specs.Outline.{ids_of}
use Rattle.twkb_body.specs.Running.{TakesMembers}
use Rattle.twkb_body.proofs.PointRuns.{err_only, members_none, members_more, members_stop}
use Rattle.twkb_body.proofs.list_points.take_members.Goals as goal

pub loop-left-init : goal.loop-left-init
loop-left-init c = record {
  leads = members_none c.args.flat.now (ids_of c.args.ids.now)
      c.args.depth c.args.from c.args.bytes.now c.args.most;
  has = refl;
  member = c.requires.member;
  nodes = c.requires.nodes;
  points = c.requires.points;
}

-- the members have ids, or none, as the multipoint
pub add_member-requires-clause-member : goal.add_member-requires-clause-member
add_member-requires-clause-member c =
    subst (λ (b : Bool). EndsInMember c.args.depth b c.loop-left.flat)
    (sym (c.has_needed_id.ensures c.if-has_needed_id.true) ∙ ap is_some (sym c.first.ensures))
    c.loop-left.invariant.member

pub returns-in_err-add_member-clause-taken : goal.returns-in_err-add_member-clause-taken
returns-in_err-add_member-clause-taken c =
    err_only (λ r. TakesMembers c.args.flat.now (ids_of c.args.ids.now) c.args.depth c.args.from
    c.args.bytes.now c.args.most r (ids_of c.loop-left.ids) c.add_member.new.self) _
    c.from_residual.ensures.0 (λ e.
    members_stop c.args.flat.now c.loop-left.flat (ids_of c.args.ids.now) (ids_of c.loop-left.ids)
    c.args.depth c.args.most c.loop-left.left _ c.args.from _ c.args.bytes.now _
    c.loop-left.invariant.leads (omega (arith, c.loop-left-test.true))
    c.in-Some.ensures)

pub loop-left-preserved : goal.loop-left-preserved
loop-left-preserved c =
    let depth = c.args.depth in
    let rows = c.loop-left.flat in
    let some : 0 < c.loop-left.left = omega (arith, c.loop-left-test.true) in
    let named = sym (c.has_needed_id.ensures c.if-has_needed_id.true) ∙ ap is_some (sym c.first.ensures) in
    let more = member_added rows c.add_member.new.self depth c.first.result _
    c.in_ok-add_member.ensures.added (subst (λ (b : Bool). EndsInMember depth b rows) named
    c.loop-left.invariant.member) in
    record {
      leads = members_more c.args.flat.now rows c.add_member.new.self (ids_of c.args.ids.now)
          (ids_of c.loop-left.ids) _ depth c.args.most c.loop-left.left _ c.args.from _
          c.args.bytes.now _ c.first.result c.loop-left.invariant.leads some c.in-Some.ensures
          c.first.ensures c.advance.ensures.ids c.in_ok-add_member.ensures.added;
      has = c.advance.ensures.has ∙ c.loop-left.invariant.has;
      member = subst (λ (b : Bool). EndsInMember depth b c.add_member.new.self)
          (sym named ∙ sym c.advance.ensures.has) more.0;
      nodes = omega (arith, more.1, some, c.loop-left.invariant.nodes);
      points = omega (arith, more.2, some, c.loop-left.invariant.points);
    }
