use Rattle.std.proofs.Common.{Some, ap}
use Rattle.twkb_conversions.specs.Conversions.{outputs_of}
use Rattle.twkb_conversions.proofs.ConversionLemmas.{ran}
use Rattle.twkb_buffer.proofs.RunLemmas.{measured, whole_length}
use Rattle.twkb_buffer.proofs.lengths.measure.Goals as goal

pub returns : goal.returns
returns c =
    let wrote = ran c.args.limits c.args.input.now _ _ c.new-reader.result c.new-writer.result
    c.convert.new.reader c.convert.new.writer (ap (λ s. Some s.now) c.new-reader.ensures.device)
    c.args.what c.convert.result c.convert.ensures in
    measured
    (outputs_of c.args.what c.args.limits c.args.input.now)
    c.convert.result
    c.measured.result
    (wrote.bytes, wrote.agrees)
    c.measured.ensures
    (λ n told. whole_length c.args.what c.args.limits c.args.input.now wrote.bytes c.convert.result n wrote.agrees told)
