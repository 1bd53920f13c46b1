use Rattle.std.proofs.Common.{◌∙◌, Some, ap}
use Rattle.twkb_io.specs.Taps.{device_of}
use Rattle.twkb_conversions.specs.Conversions.{outputs_of}
use Rattle.twkb_conversions.proofs.ConversionLemmas.{ran}
use Rattle.twkb_buffer.specs.Slices.{buffer_of, held}
use Rattle.twkb_buffer.proofs.RunLemmas.{fills, moved_back}
use Rattle.twkb_buffer.proofs.filled_slice.run_into.Goals as goal

pub returns : goal.returns
returns c =
    let wrote = ran c.args.limits c.args.input.now _ held c.new-reader.result c.new-writer.result
    c.convert-answer.new.reader c.convert-answer.new.writer
    (ap (λ s. Some s.now) c.new-reader.ensures.device) c.args.what c.convert-answer.result
    c.convert-answer.ensures in
    let front = moved_back c.args.filler.now (device_of c.new-writer.result)
    (device_of c.convert-answer.new.writer) c.into_inner.result wrote.bytes
    (c.new-writer.ensures.device ∙ c.replace.ensures.value) c.into_inner.ensures c.requires
    wrote.appends in
    record {
      same_borrow = front.same_borrow;
      fills = fills (outputs_of c.args.what c.args.limits c.args.input.now) c.convert-answer.result wrote.bytes
          (buffer_of c.into_inner.result).now wrote.agrees front.within front.front;
    }
