use Rattle.std.proofs.Common.{◌∙◌, ◌++◌, ap, to_z-of_z, None}
use Rattle.twkb_tree.specs.declared.kind.Kind.{Kind}
use Rattle.twkb_geojson.specs.Value.{text_of, positions}
use Rattle.twkb_geojson.proofs.ObjectLemmas.{object_put}
use Rattle.twkb_geojson.proofs.simple_text.put_line.Goals as goal

pub returns-clause-appended : goal.returns-clause-appended
returns-clause-appended c =
    object_put Kind.Linestring None (positions c.args.precision c.args.points.now) _ _ _ _
    c.in_ok-put_start.ensures.appended
    (c.in_ok-put_positions.ensures.appended
    ∙ ap (λ p. c.put_start.new.text.items ++ text_of (positions p c.args.points.now)) (to_z-of_z c.ranges.precision))
    c.in_ok-push.ensures.items
