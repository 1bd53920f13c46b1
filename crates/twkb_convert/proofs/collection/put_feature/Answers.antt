use Rattle.std.proofs.Common.{◌∙◌, ◌++◌, ap}
use Rattle.std.specs.Prelude.{codes}
use Rattle.twkb_geojson.specs.Value.{geojson}
use Rattle.twkb_convert.specs.Collections.{before_feature}
use Rattle.twkb_convert.proofs.CollectionLemmas.{feature_put}
use Rattle.twkb_convert.proofs.collection.put_feature.Goals as goal

pub returns : goal.returns
returns c = λ g sound own.
    feature_put c.args.text.now.items (before_feature c.args.is_first)
    (codes "{\"type\":\"Feature\",\"properties\":{},\"geometry\":") (geojson g) _ _ _ _
    (c.in_ok-extend_from_slice.ensures.items ∙ ap (λ l. c.args.text.now.items ++ l) c.line_start.ensures)
    c.in_ok-extend_from_slice-2.ensures.items (c.in_ok-put_geojson.ensures.appended g sound own)
    c.in_ok-push.ensures.items
