use Rattle.std.proofs.Common.{FitsSigned, w8}
use Rattle.std.proofs.lemmas.Int.{to_z-of_z}
use Rattle.twkb_geojson.specs.Value.{positions}
use Rattle.twkb_geojson.proofs.ListLemmas.{in_brackets}
use Rattle.twkb_geojson.proofs.lists.put_lists.Goals as goal

pub returns-clause-appended : goal.returns-clause-appended
returns-clause-appended c =
    let fits : FitsSigned w8 c.args.precision = c.ranges.precision in
    let put = simp to_z-of_z at c.in_ok-list_lines.ensures.appended in
    in_brackets (positions c.args.precision) c.args.lines.now _ _ _ _ c.in_ok-push.ensures.items put
    c.in_ok-push-2.ensures.items
