use Rattle.std.proofs.Common.{◌∙◌, ◌++◌, ◌∷◌, [], sym, ap, rules, SFits, w64, to_z-of_z}
use Rattle.twkb_body.specs.Outline.{ids_read}
use Rattle.twkb_body.proofs.InFront.{unzigzag_back}
use Rattle.twkb_engine.proofs.member_items.push_id.Goals as goal

pub returns-clause-pushed : goal.returns-clause-pushed
returns-clause-pushed c =
    let fits : SFits w64 c.unzigzag.result = search rules in
    let pushed = simp to_z-of_z at c.in_ok-push.ensures.pushed in
    pushed ∙ ap (λ z. ids_read c.args.ids.now ++ z ∷ []) (sym (unzigzag_back c.unzigzag.result
    c.args.number c.unzigzag.ensures))
