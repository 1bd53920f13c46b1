use Rattle.std.proofs.Common.{sym}
use Rattle.csv.specs.Records.{fields_of}
use Rattle.twkb_table.proofs.RowReaderLemmas.{AreFields, five_are}
use Rattle.twkb_table.proofs.fields.five_fields.Goals as goal

pub returns : goal.returns
returns c =
    let five : AreFields (fields_of c.args.row.now) c.field.result.now c.field-2.result.now
    c.field-3.result.now c.field-4.result.now c.field-5.result.now =
    record {
      count = c.requires;
      first = c.field.ensures.value;
      second = c.field-2.ensures.value;
      third = c.field-3.ensures.value;
      fourth = c.field-4.ensures.value;
      fifth = c.field-5.ensures.value;
    } in
    record { value = sym (five_are (fields_of c.args.row.now) _ _ _ _ _ five) }
