use Rattle.std.proofs.Common.{sym, subst, ap, ◌∙◌}
use Rattle.twkb_body.specs.Growing.{Change, applied, Admits}
use Rattle.twkb_engine.specs.Taking.{last_lists}
use Rattle.twkb_engine.proofs.Parts.{past_lists, then_brought, then_unkept, then_refused}
use Rattle.twkb_engine.proofs.Points.{point_there}
use Rattle.twkb_engine.proofs.engine.Engine.put_last_point.Goals as goal

pub returns-in_err-ends : goal.returns-in_err-ends
returns-in_err-ends g c = then_refused c.from_residual.ensures.1 (c.in_err-ends.ensures.ended c.args.flat.now)

pub put_point-requires : goal.put_point-requires
put_point-requires g c =
    subst (λ (h : Change). Admits h c.args.flat.now) (sym (point_there c.args.self.now
    c.end_list_or_point.new.self.head
    c.first-member.result c.args.position c.in_ok-ends.ensures.head c.first-member.ensures))
    c.requires.may

pub returns-in_err-put_point : goal.returns-in_err-put_point
returns-in_err-put_point g c =
    let d = c.args.self.now in
    then_unkept c.in_ok-ends.ends c.from_residual-in_err-put_point.ensures.1 (past_lists d (last_lists d))
    (c.in_ok-ends.ensures.ended c.args.flat.now)

pub returns : goal.returns
returns g c =
    then_brought c.in_ok-ends.ends (c.in_ok-ends.ensures.ended c.args.flat.now) (c.in_ok-put_point.ensures.put
    ∙ ap (λ (h : Change). applied h c.args.flat.now) (point_there c.args.self.now c.end_list_or_point.new.self.head
    c.first-member.result c.args.position c.in_ok-ends.ensures.head c.first-member.ensures))
