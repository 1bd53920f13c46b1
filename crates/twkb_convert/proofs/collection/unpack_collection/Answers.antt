use Rattle.std.proofs.Common.{refl, rules}
use Rattle.twkb_convert.proofs.CollectionLemmas.{collected, collection_flushed, collection_stopped}
use Rattle.twkb_convert.proofs.collection.unpack_collection.Goals as goal

pub list_blobs-listing-requires : goal.list_blobs-listing-requires
list_blobs-listing-requires g c = record {
  fresh = record {
    between = record { fresh = search rules; going_on = search rules; input = search rules };
    unread = search rules;
    unspent = search rules;
    unsent = search rules;
  };
  none = refl;
  nothing = refl;
}

pub returns-clause-ok : goal.returns-clause-ok
returns-clause-ok g c = collected g.R.Read.remaining _ _ _ _ c.finish.ensures.finishes
    c.list_blobs-listing.ensures.lists c.close-sending.ensures (search rules) (search rules) (search rules)
    (search rules) (search rules) (search rules) (search rules) (search rules) (search rules)

pub returns-clause-err : goal.returns-clause-err
returns-clause-err g c = collection_stopped g.R.Read.remaining _ _ _ _ c.finish.ensures.finishes
    c.list_blobs-listing.ensures.lists c.close-sending.ensures (search rules) (search rules) (search rules)
    (search rules) (search rules) (search rules) (search rules) (search rules) (search rules)

pub returns-clause-flushed : goal.returns-clause-flushed
returns-clause-flushed g c = collection_flushed c.finish.ensures.finishes
    c.list_blobs-listing.ensures.lists c.close-sending.ensures (search rules) (search rules) _ (search rules)
