use Rattle.twkb_convert.proofs.SendingLemmas.{changes_as}
use Rattle.twkb_column.proofs.CsvLemmas.{named_by}
use Rattle.twkb_column.proofs.TableLemmas.{ends_table, packed_column, stopped_column}
use Rattle.twkb_column.proofs.packed_column.pack_column.Goals as goal

pub returns-clause-ok : goal.returns-clause-ok
returns-clause-ok g c =
    let packs = rw c.new-table.ensures.device at c.pack_table-packed.ensures.packs in
    rw c.tell.ensures (packed_column c.args.style c.args.limits c.args.column g.R.Read.remaining g.W.Write.contents
    c.args.reader.now c.end_reading-ended.new.tap c.args.writer.now c.pack_table-packed.new.writer _
    (named_by _ _ _ _ c.new.ensures.text c.new-csv.ensures) _ c.pack_table-packed.result c.end_reading-ended.result
    (changes_as c.failures-failures.result c.failures.result _ _ c.failures-failures.ensures c.failures.ensures)
    (ends_table _ _ _ _ _ _ _ _ _ packs c.end_reading-ended.ensures.ends) c.end_reading-ended.ensures.ends)

pub returns-clause-err : goal.returns-clause-err
returns-clause-err g c =
    let packs = rw c.new-table.ensures.device at c.pack_table-packed.ensures.packs in
    rw c.tell.ensures (stopped_column c.args.style c.args.limits c.args.column g.R.Read.remaining g.W.Write.contents
    c.args.reader.now c.end_reading-ended.new.tap c.args.writer.now c.pack_table-packed.new.writer _
    (named_by _ _ _ _ c.new.ensures.text c.new-csv.ensures) _ c.end_reading-ended.result
    (changes_as c.failures-failures.result c.failures.result _ _ c.failures-failures.ensures c.failures.ensures)
    (ends_table _ _ _ _ _ _ _ _ _ packs c.end_reading-ended.ensures.ends))
