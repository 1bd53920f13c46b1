use Rattle.std.proofs.Common.{◌≡◌, arith, rules, ap, ◌∙◌}
use Rattle.twkb_hex.proofs.RecordLemmas.{found_all, found_next, found_step}
use Rattle.twkb_hex.proofs.found.find.Goals as goal
use Rattle.twkb_hex.proofs.found.find.Goals.{then-eq, else-eq}

pub loop-place-preserved : goal.loop-place-preserved
loop-place-preserved c =
    let next : c.if-eq.found ≡ found_next c.args.name.now c.loop-place.found c.loop-place.place c.field_at.result.now =
    search rules in
    found_step c.args.name.now _ _ _ _ (omega (
      arith,
      c.loop-place-test.true,
      c.len-place-end.ensures,
      c.loop-place.auto.place-end,
    ))
    (next ∙ ap (λ f. found_next c.args.name.now c.loop-place.found c.loop-place.place f) c.field_at.ensures)
    c.loop-place.invariant

pub returns : goal.returns
returns c = found_all _ _ _ c.loop-place.place
    (omega (arith, c.loop-place-test.false, c.len-place-end.ensures, c.loop-place.auto.place-end))
    c.loop-place.invariant
