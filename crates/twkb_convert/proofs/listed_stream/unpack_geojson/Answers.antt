use Rattle.std.proofs.lemmas.Result.{IfErr-weaker, IfOk-weaker}
use Rattle.twkb_convert.specs.Listings.{geojson_layout}
use Rattle.twkb_convert.specs.Outputs.{geojson_text}
use Rattle.twkb_convert.proofs.ListingLemmas.{geojson_of_blobs}
use Rattle.twkb_convert.proofs.TreesListed.{trees_listed, trees_stopped}
use Rattle.twkb_convert.proofs.listed_stream.unpack_geojson.Goals as goal

pub returns-clause-ok : goal.returns-clause-ok
returns-clause-ok g c =
    IfOk-weaker _ _ _ (λ report. trees_listed geojson_layout geojson_text geojson_of_blobs c.args.limits)
    c.list_stream.ensures.ok

pub returns-clause-err : goal.returns-clause-err
returns-clause-err g c =
    IfErr-weaker _ _ _ (λ fault. trees_stopped geojson_layout geojson_text geojson_of_blobs c.args.limits)
    c.list_stream.ensures.err
