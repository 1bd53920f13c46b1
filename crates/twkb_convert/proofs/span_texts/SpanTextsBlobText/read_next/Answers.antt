use Rattle.std.proofs.Common.{◌≡◌, true, false, rules}
use Rattle.twkb_blob.specs.StreamReaders.{reader_in, rows_in}
use Rattle.twkb_convert.proofs.ListingLemmas.{ended, spans_given}
use Rattle.std.specs.Prelude.{flat_map}
use Rattle.twkb_convert.proofs.span_texts.SpanTextsBlobText.read_next.Goals as goal

pub returns-then-not-branch : goal.returns-then-not-branch
returns-then-not-branch g c =
    let none : c.in_ok-next_spans.field-0 ≡ false = search rules in
    let read = rw none at c.in_ok-next_spans.ensures in
    record {
      reads = ended (reader_in c.args.blobs.now) (reader_in c.next_spans.new.self) c.requires.between
          read.shared read.next;
    }

pub returns : goal.returns
returns g c =
    let found : c.in_ok-next_spans.field-0 ≡ true = search rules in
    record {
      reads = spans_given (reader_in c.args.blobs.now) (reader_in c.next_spans.new.self) (flat_map g.F.SpanForm.written)
          (rows_in c.next_spans.new.self) c.next_spans.new.spans c.put_all.new.text.items c.requires.between
          (rw found at c.in_ok-next_spans.ensures) (search rules);
    }
