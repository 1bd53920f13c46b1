use Rattle.std.proofs.Common.{refl, rules}
use Rattle.twkb_rest.proofs.EndLemmas.{flushed, stopped, unpacked}
use Rattle.twkb_rest.proofs.column_stream.unpack_column.Goals as goal

pub send_column-sending-requires : goal.send_column-sending-requires
send_column-sending-requires g c = record {
  fresh = record {
    between = record { fresh = search rules; going_on = search rules; input = search rules };
    unread = search rules;
    unspent = search rules;
    unsent = search rules;
  };
  none = refl;
  nothing = refl;
}

pub returns-clause-ok : goal.returns-clause-ok
returns-clause-ok g c = unpacked g.R.Read.remaining _ _ _ _ c.finish.ensures.finishes
    c.send_column-sending.ensures.sends (search rules) (search rules) (search rules) (search rules)
    (search rules) (search rules) (search rules) (search rules)

pub returns-clause-err : goal.returns-clause-err
returns-clause-err g c = stopped g.R.Read.remaining _ _ _ _ c.finish.ensures.finishes
    c.send_column-sending.ensures.sends (search rules) (search rules) (search rules) (search rules)
    (search rules) (search rules) (search rules) (search rules)

pub returns-clause-flushed : goal.returns-clause-flushed
returns-clause-flushed g c = flushed c.finish.ensures.finishes
    c.send_column-sending.ensures.sends.leaves.unspent _ (search rules)
