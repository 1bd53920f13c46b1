use Rattle.std.proofs.Common.{FitsSigned, w8}
use Rattle.std.proofs.lemmas.Int.{to_z-of_z}
use Rattle.twkb_geojson.specs.Value.{lists}
use Rattle.twkb_geojson.proofs.ListLemmas.{in_brackets}
use Rattle.twkb_geojson.proofs.lists.put_areas.Goals as goal

pub returns-clause-appended : goal.returns-clause-appended
returns-clause-appended c =
    let fits : FitsSigned w8 c.args.precision = c.ranges.precision in
    let put = simp to_z-of_z at c.in_ok-list_areas.ensures.appended in
    in_brackets (lists c.args.precision) c.args.areas.now _ _ _ _ c.in_ok-push.ensures.items put
    c.in_ok-push-2.ensures.items
