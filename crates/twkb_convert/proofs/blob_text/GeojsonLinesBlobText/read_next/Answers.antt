use Rattle.std.proofs.Common.{◌≡◌, true, false, rules, ◌∙◌, ◌++◌, ap, sym}
use Rattle.twkb_geojson.specs.Value.{line_of}
use Rattle.twkb_blob.specs.StreamReaders.{reader_in, rows_in}
use Rattle.twkb_convert.proofs.ListingLemmas.{ended, geojson_given}
use Rattle.twkb_convert.proofs.blob_text.GeojsonLinesBlobText.read_next.Goals as goal

pub returns-then-not-branch : goal.returns-then-not-branch
returns-then-not-branch g c =
    let none : c.in_ok-next.field-0 ≡ false = search rules in
    let read = rw none at c.in_ok-next.ensures in
    record {
      reads = ended (reader_in c.args.blobs.now) (reader_in c.next.new.self) c.requires.between
          read.shared read.next;
    }

pub returns : goal.returns
returns gs c =
    let found : c.in_ok-next.field-0 ≡ true = search rules in
    record {
      reads = geojson_given (reader_in c.args.blobs.now) (reader_in c.next.new.self) (rows_in c.next.new.self)
          c.put_geojson_line.new.text.items c.requires.between
          (rw found at c.in_ok-next.ensures)
          (λ g sound own. c.in_ok-put_geojson_line.ensures g sound (own ∙ sym c.rows.ensures)
          ∙ ap (λ l. l ++ line_of g) c.in_ok-make_room.ensures.empty);
    }
