use Rattle.std.proofs.Common.{◌≡◌, true, false, rules, ◌∙◌, ◌++◌, ap, sym}
use Rattle.std.specs.Prelude.{nat_eq}
use Rattle.twkb_geojson.specs.Collection.{feature_text}
use Rattle.twkb_blob.specs.StreamReaders.{reader_in, rows_in}
use Rattle.twkb_convert.specs.Collections.{before_feature}
use Rattle.twkb_convert.proofs.ListingLemmas.{ended}
use Rattle.twkb_convert.proofs.CollectionLemmas.{feature_given}
use Rattle.twkb_convert.proofs.collection.FeaturesBlobText.read_next.Goals as goal

pub returns-then-not-branch : goal.returns-then-not-branch
returns-then-not-branch g c =
    let none : c.in_ok-next.field-0 ≡ false = search rules in
    let read = rw none at c.in_ok-next.ensures in
    record {
      reads = ended (reader_in c.args.blobs.now) (reader_in c.next.new.self) c.requires.between
          read.shared read.next;
    }

pub returns : goal.returns
returns gs c =
    let found : c.in_ok-next.field-0 ≡ true = search rules in
    record {
      reads = feature_given (reader_in c.args.blobs.now) (reader_in c.next.new.self) (rows_in c.next.new.self)
          c.put_feature.new.text.items c.offset-start.result c.offset-start.ensures c.requires.between
          (rw found at c.in_ok-next.ensures)
          (λ g sound own. c.in_ok-put_feature.ensures g sound (own ∙ sym c.rows.ensures)
          ∙ ap (λ l. l ++ (before_feature (nat_eq c.offset-start.result 0) ++ feature_text g))
          c.in_ok-make_room.ensures.empty);
    }
