use Rattle.std.proofs.Common.{rules, sym, arith, refl}
use Rattle.twkb_engine.proofs.Items.{takes, took, takes_on, rings_end, rings_begin}
use Rattle.twkb_engine.proofs.Parts.{sums_as, add_zero}
use Rattle.twkb_engine.proofs.engine.Engine.ring_count.Goals as goal

pub put_empty_list-requires-clause-may : goal.put_empty_list-requires-clause-may
put_empty_list-requires-clause-may g c =
    (rings_end _ c.requires c.first.ensures refl (sym c.in_default.ensures)
    c.ring_list_row-row.ensures c.if-count-eq0.true).admits

pub returns-then-count-eq0 : goal.returns-then-count-eq0
returns-then-count-eq0 g c =
    took (takes (rings_end _ c.requires c.first.ensures refl (sym c.in_default.ensures)
    c.ring_list_row-row.ensures c.if-count-eq0.true) _ _ _ _ (sums_as refl refl refl (add_zero _)) refl refl
    c.put_empty_list.ensures.landed)
    (search rules) (search rules) (search rules)

pub push_row-requires : goal.push_row-requires
push_row-requires g c =
    (rings_begin _ c.requires c.first.ensures refl (sym c.in_default.ensures)
    c.ring_list_row-row.ensures (omega (arith, c.if-count-eq0.false))).admits

pub returns : goal.returns
returns g c =
    took (takes_on (rings_begin _ c.requires c.first.ensures refl (sym c.in_default.ensures)
    c.ring_list_row-row.ensures (omega (arith, c.if-count-eq0.false))) refl
    (sums_as refl refl refl (add_zero _)) c.in_ok-push_row.ensures.pushed (record { limits = refl; start = refl }))
    (search rules) (search rules) (search rules)
