use Rattle.twkb_buffer.proofs.ColumnLemmas.{csv_texts, line_texts}
use Rattle.twkb_buffer.proofs.laws.column_texts.Goals as goal

pub returns-clause-csv : goal.returns-clause-csv
returns-clause-csv c = csv_texts

pub returns-clause-lines : goal.returns-clause-lines
returns-clause-lines c = line_texts
