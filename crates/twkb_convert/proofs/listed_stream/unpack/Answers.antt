use Rattle.std.proofs.lemmas.Result.{IfErr-weaker, IfOk-weaker}
use Rattle.twkb_convert.specs.Listings.{table_layout}
use Rattle.twkb_convert.specs.Outputs.{table_text}
use Rattle.twkb_convert.proofs.ListingLemmas.{table_of_blobs}
use Rattle.twkb_convert.proofs.TreesListed.{trees_listed, trees_stopped}
use Rattle.twkb_convert.proofs.listed_stream.unpack.Goals as goal

pub returns-clause-ok : goal.returns-clause-ok
returns-clause-ok g c =
    IfOk-weaker _ _ _ (λ report. trees_listed table_layout table_text table_of_blobs c.args.limits)
    c.list_stream.ensures.ok

pub returns-clause-err : goal.returns-clause-err
returns-clause-err g c =
    IfErr-weaker _ _ _ (λ fault. trees_stopped table_layout table_text table_of_blobs c.args.limits)
    c.list_stream.ensures.err
