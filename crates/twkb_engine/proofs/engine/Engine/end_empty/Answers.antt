use Rattle.std.proofs.Common.{◌≡◌, ◌∙◌, ◌++◌, ◌∷◌, [], ap, rules}
use Rattle.twkb_flat.specs.Rows.{row_with}
use Rattle.twkb_engine.proofs.Parts.{goes, then_brought, then_refused}
use Rattle.twkb_engine.proofs.engine.Engine.end_empty.Goals as goal

pub returns-in_err-ends : goal.returns-in_err-ends
returns-in_err-ends g c = then_refused c.from_residual.ensures.1 (c.in_err-ends.ensures.ended c.args.flat.now)

pub returns-in_default : goal.returns-in_default
returns-in_default g c =
    let t = c.in_ok-ends.ensures in
    goes t.judged tt (λ here. tt) (t.ended c.args.flat.now).kept

pub returns : goal.returns
returns g c =
    let pushed : c.push_row.new.flat ≡ c.args.flat.now ++ row_with c.own_row-row.result [] ∷ [] = search rules in
    then_brought c.in_ok-ends.ends (c.in_ok-ends.ensures.ended c.args.flat.now)
    (pushed ∙ ap (λ r. c.args.flat.now ++ r ∷ []) c.own_row-row.ensures)
