use Rattle.std.proofs.Common.{◌∙◌, Some, ap}
use Rattle.twkb_io.specs.Taps.{device_of}
use Rattle.twkb_buffer.specs.ColumnJobs.{column_outputs}
use Rattle.twkb_buffer.proofs.ColumnLemmas.{fills_front, ran_column}
use Rattle.twkb_buffer.specs.Slices.{buffer_of, held}
use Rattle.twkb_buffer.proofs.RunLemmas.{moved_back}
use Rattle.twkb_buffer.proofs.filled_column.run_into.Goals as goal

pub returns : goal.returns
returns c =
    let wrote = ran_column c.args.column c.args.limits c.args.input.now _ held c.new-reader.result c.new-writer.result
    c.run_job-answer.new.reader c.run_job-answer.new.writer
    (ap (λ s. Some s.now) c.new-reader.ensures.device) c.args.what c.run_job-answer.result
    c.run_job-answer.ensures in
    let front = moved_back c.args.filler.now (device_of c.new-writer.result)
    (device_of c.run_job-answer.new.writer) c.into_inner.result wrote.bytes
    (c.new-writer.ensures.device ∙ c.replace.ensures.value) c.into_inner.ensures c.requires
    wrote.appends in
    record {
      same_borrow = front.same_borrow;
      fills = fills_front (column_outputs c.args.what c.args.column c.args.limits c.args.input.now)
          c.run_job-answer.result wrote.bytes (buffer_of c.into_inner.result).now wrote.agrees front.within front.front;
    }
