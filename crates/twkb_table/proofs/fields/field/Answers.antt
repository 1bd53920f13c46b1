use Rattle.csv.specs.Records.{fields_of}
use Rattle.twkb_table.proofs.RowReaderLemmas.{some_field}
use Rattle.twkb_table.proofs.fields.field.Goals as goal

pub unwrap-requires : goal.unwrap-requires
unwrap-requires c = some_field (fields_of c.args.row.now) c.args.place c.get.result c.requires c.get.ensures.value
