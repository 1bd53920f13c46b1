use Rattle.std.proofs.Common.{◌∙◌, sym, rules}
use Rattle.twkb_writer.proofs.PutLemmas.{flushed}
use Rattle.twkb_writer.proofs.gatherer.Gatherer+S+S+Fault.flush.Goals as goal

pub returns-clause-put : goal.returns-clause-put
returns-clause-put g c =
    flushed g.S.Sink.took g.S.Sink.refused g.met.S.Sink.takes_join g.met.S.Sink.refuses_join _ _ _ _
    c.as_slice.ensures (search rules) (search rules) (sym c.replace.ensures.value
    ∙ c.in-None.is)
    (c.replace.ensures.after ∙ c.err-refused.ensures.value) c.clear-2.ensures c.put.ensures.ok c.put.ensures.err
