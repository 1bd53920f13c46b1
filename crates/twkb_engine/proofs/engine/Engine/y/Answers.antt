use Rattle.std.proofs.Common.{rules, arith, refl}
use Rattle.twkb_engine.proofs.Items.{y_last, y_more, takes, took, takes_on, takes_none}
use Rattle.twkb_engine.proofs.Parts.{sums_as, add_zero}
use Rattle.twkb_engine.proofs.engine.Engine.y.Goals as goal

pub add_point-requires : goal.add_point-requires
add_point-requires g c =
    let at = c.in-Some.ensures in
    let l = y_more c.requires at.free at.moved c.if-self-gt1.true in
    record { line = l.admits.0; room = l.admits.1 }

pub returns-in_err-add_point : goal.returns-in_err-add_point
returns-in_err-add_point g c =
    let at = c.in-Some.ensures in
    took (takes_none (y_more c.requires at.free at.moved c.if-self-gt1.true) _ _ _
    c.from_residual.ensures.1 tt)
    (search rules) (search rules) (search rules)

pub returns-then-self-gt1 : goal.returns-then-self-gt1
returns-then-self-gt1 g c =
    let at = c.in-Some.ensures in
    took (takes_on (y_more c.requires at.free at.moved c.if-self-gt1.true)
    refl (sums_as refl at.moved (add_zero _) (add_zero _)) c.in_ok-add_point.ensures.added
    (record { limits = refl; start = refl }))
    (search rules) (search rules) (search rules)

pub put_last_point-requires-clause-may : goal.put_last_point-requires-clause-may
put_last_point-requires-clause-may g c =
    let at = c.in-Some.ensures in
    (y_last c.requires at.free at.moved (omega (arith, c.if-self-gt1.false))).admits

pub returns : goal.returns
returns g c =
    let at = c.in-Some.ensures in
    took (takes (y_last c.requires at.free at.moved (omega (arith, c.if-self-gt1.false)))
    _ _ _ _ (sums_as refl at.moved (add_zero _) (add_zero _)) refl refl c.put_last_point.ensures.landed)
    (search rules) (search rules) (search rules)
