use Rattle.twkb_arrays.proofs.WritingLemmas.{none_read}
use Rattle.twkb_arrays.proofs.writer.Writer.new.Goals as goal

pub returns-clause-writing : goal.returns-clause-writing
returns-clause-writing c = λ l style output ends is.
    none_read l style output ends _ c.new.ensures (c.nothing.ensures.sent style output ends is)
