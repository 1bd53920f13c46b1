use Rattle.std.proofs.Common.{Some, ap}
use Rattle.twkb_buffer.proofs.ColumnLemmas.{known_length, ran_column}
use Rattle.twkb_buffer.proofs.filled_column.length_of.Goals as goal

pub returns : goal.returns
returns c = λ some.
    let wrote = ran_column c.args.column c.args.limits c.args.input.now _ _ c.new-reader.result c.new-writer.result
    c.run_job.new.reader c.run_job.new.writer (ap (λ s. Some s.now) c.new-reader.ensures.device)
    c.args.what c.run_job.result c.run_job.ensures in
    known_length c.args.what c.args.column c.args.limits c.args.input.now wrote.bytes c.run_job.result
    c.whole_length.result wrote.agrees c.whole_length.ensures some
