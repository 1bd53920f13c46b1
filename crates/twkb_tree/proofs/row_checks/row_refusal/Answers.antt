use Rattle.std.proofs.Common.{true, refl}
use Rattle.twkb_tree.specs.Open.{row_there}
use Rattle.twkb_tree.proofs.OpenLaws.{in_row}
use Rattle.twkb_tree.proofs.row_checks.row_refusal.Goals as goal

pub returns-in-Some : goal.returns-in-Some
returns-in-Some c own many =
    let r = row_there c.args.row_place.now c.args.kind c.args.id c.args.precision own in
    in_row true c.args.limits.now c.args.row_place.now r _ _ (c.in-Some.ensures own) refl

pub returns : goal.returns
returns c own many =
    let r = row_there c.args.row_place.now c.args.kind c.args.id c.args.precision own in
    in_row true c.args.limits.now c.args.row_place.now r _ _ (c.in_default.ensures own)
    (c.points_refusal.ensures r refl many)
