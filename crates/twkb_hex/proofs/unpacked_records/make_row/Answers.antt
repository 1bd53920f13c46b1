use Rattle.std.proofs.Common.{◌∙◌, refl, sym}
use Rattle.csv.specs.Records.{fields_of}
use Rattle.twkb_hex.specs.Rows.{replaced}
use Rattle.twkb_hex.proofs.TextLemmas.{row_alone}
use Rattle.twkb_hex.proofs.unpacked_records.make_row.Goals as goal

pub returns-clause-ok : goal.returns-clause-ok
returns-clause-ok c = (
  replaced c.args.place c.unpack_field.new.made.items (fields_of c.args.row.now),
  record {
    fields = sym c.len.ensures ∙ c.if-len-width.false;
    made = c.unpack_field.new.made.items;
    becomes = rw c.field_at.ensures at c.in_ok-unpack_field.ensures.ok;
    is = refl;
  },
  row_alone c.args.unpacking.now.delimiter _ _
      (replaced c.args.place c.unpack_field.new.made.items (fields_of c.args.row.now)) c.clear.ensures.items
      (rw c.deref.ensures.value at c.in_ok-append_row.ensures),
)
