use Rattle.twkb_engine.specs.Taking.{last_lists}
use Rattle.twkb_engine.proofs.Parts.{past_lists, then_brought, then_unkept, then_refused}
use Rattle.twkb_engine.proofs.engine.Engine.put_empty_list.Goals as goal

pub returns-in_err-ends : goal.returns-in_err-ends
returns-in_err-ends g c = then_refused c.from_residual.ensures.1 (c.in_err-ends.ensures.ended c.args.flat.now)

pub returns-in_err-push_row : goal.returns-in_err-push_row
returns-in_err-push_row g c =
    let d = c.args.self.now in
    then_unkept c.in_ok-ends.ends c.from_residual-in_err-push_row.ensures.1 (past_lists d (last_lists d))
    (c.in_ok-ends.ensures.ended c.args.flat.now)

pub returns : goal.returns
returns g c =
    then_brought c.in_ok-ends.ends (c.in_ok-ends.ensures.ended c.args.flat.now) c.in_ok-push_row.ensures.pushed
