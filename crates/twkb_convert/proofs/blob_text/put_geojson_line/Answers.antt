use Rattle.std.proofs.Common.{◌∙◌, ◌++◌, ◌∷◌, [], ap, append_assoc}
use Rattle.twkb_geojson.specs.Value.{geojson}
use Rattle.twkb_convert.proofs.blob_text.put_geojson_line.Goals as goal

pub returns : goal.returns
returns c = λ g sound own.
    c.in_ok-push.ensures.items ∙ ap (λ l. l ++ 10 ∷ []) (c.in_ok-put_geojson.ensures.appended g sound own)
    ∙ append_assoc c.args.text.now.items (geojson g) (10 ∷ [])
