use Rattle.std.proofs.Common.{◌∙◌, [], refl, sym}
use Rattle.std.proofs.lemmas.List.{append-nil}
use Rattle.csv.specs.Records.{fields_of}
use Rattle.twkb_io.specs.Bytes.{bytes_of}
use Rattle.twkb_records.specs.Rows.{replaced}
use Rattle.twkb_records.proofs.TextLemmas.{row_alone}
use Rattle.twkb_split.proofs.piece.make_piece.Goals as goal

pub returns-clause-ok : goal.returns-clause-ok
returns-clause-ok c = (
  record {
    row = replaced c.args.place [] (fields_of c.args.row.now);
    blob = bytes_of c.pack_field.new.blob;
  },
  record {
    fields = sym c.len.ensures ∙ c.if-len-width.false;
    packs = rw c.field_at.ensures at c.in_ok-pack_field.ensures.ok;
    is = refl;
  },
  row_alone c.args.packing.now.column.delimiter _ _ (replaced c.args.place [] (fields_of c.args.row.now))
      c.clear.ensures.items c.in_ok-append_row.ensures,
  sym (append-nil (bytes_of c.pack_field.new.blob)),
)
