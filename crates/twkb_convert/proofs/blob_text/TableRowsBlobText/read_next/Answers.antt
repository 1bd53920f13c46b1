use Rattle.std.proofs.Common.{◌≡◌, true, false, rules}
use Rattle.twkb_blob.specs.StreamReaders.{reader_in, rows_in}
use Rattle.twkb_convert.proofs.ListingLemmas.{ended, rows_given}
use Rattle.twkb_convert.proofs.blob_text.TableRowsBlobText.read_next.Goals as goal

pub returns-then-not-branch : goal.returns-then-not-branch
returns-then-not-branch g c =
    let none : c.in_ok-next.field-0 ≡ false = search rules in
    let read = rw none at c.in_ok-next.ensures in
    record {
      reads = ended (reader_in c.args.blobs.now) (reader_in c.next.new.self) c.requires.between
          read.shared read.next;
    }

pub returns : goal.returns
returns g c =
    let found : c.in_ok-next.field-0 ≡ true = search rules in
    record {
      reads = rows_given (reader_in c.args.blobs.now) (reader_in c.next.new.self) (rows_in c.next.new.self)
          c.put_flat_rows.new.text.items c.requires.between
          (rw found at c.in_ok-next.ensures) (search rules);
    }
