use Rattle.std.proofs.Common.{◌≡◌, true, rules}
use Rattle.twkb_blob.specs.StreamReaders.{reader_in, rows_in}
use Rattle.twkb_rest.proofs.LineLemmas.{line_given}
use Rattle.twkb_rest.proofs.line.Lines.read_next.Goals as goal

pub returns : goal.returns
returns g c =
    let found : c.in_ok-next.field-0 ≡ true = search rules in
    record {
      reads = line_given (reader_in c.args.blobs.now) (reader_in c.next.new.self) c.args.delimiter
          c.args.self.now.first c.judge.new.self.first (rows_in c.next.new.self) c.row_at.result.0
          c.row_at.result.1.now c.put_line.new.text.items c.requires.between
          (rw found at c.in_ok-next.ensures) (rw c.rows.ensures at c.row_at.ensures.row)
          (c.judge.ensures.takes (search rules)) c.in_ok-put_line.ensures;
    }
