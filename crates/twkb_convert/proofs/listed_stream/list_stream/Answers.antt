use Rattle.std.proofs.Common.{refl, rules}
use Rattle.twkb_convert.proofs.ListingLemmas.{flushed, listed, stopped}
use Rattle.twkb_convert.proofs.listed_stream.list_stream.Goals as goal

pub list_blobs-sending-requires : goal.list_blobs-sending-requires
list_blobs-sending-requires g c = record {
  fresh = record {
    between = record { fresh = search rules; going_on = search rules; input = search rules };
    unread = search rules;
    unspent = search rules;
    unsent = search rules;
  };
  none = refl;
  nothing = refl;
}

pub returns-clause-ok : goal.returns-clause-ok
returns-clause-ok g c = listed g.R.Read.remaining _ _ _ _ c.finish.ensures.finishes
    c.list_blobs-sending.ensures.lists (search rules) (search rules) (search rules) (search rules)
    (search rules) (search rules) (search rules) (search rules)

pub returns-clause-err : goal.returns-clause-err
returns-clause-err g c = stopped g.R.Read.remaining _ _ _ _ c.finish.ensures.finishes
    c.list_blobs-sending.ensures.lists (search rules) (search rules) (search rules) (search rules)
    (search rules) (search rules) (search rules) (search rules)

pub returns-clause-flushed : goal.returns-clause-flushed
returns-clause-flushed g c = flushed c.finish.ensures.finishes
    c.list_blobs-sending.ensures.lists.leaves.unspent _ (search rules)
