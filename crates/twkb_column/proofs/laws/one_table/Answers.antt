use Rattle.twkb_column.proofs.CsvLemmas.{one_text, some_records, text_back}
use Rattle.twkb_column.proofs.laws.one_table.Goals as goal

pub returns : goal.returns
returns c = record {
  some = some_records;
  one = λ column csv text records all names. (
    one_text column csv text records all names,
    text_back column csv text records all names,
  );
}
