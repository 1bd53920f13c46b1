use Rattle.std.proofs.Common.{sym, ◌∙◌}
use Rattle.csv.specs.Records.{fields_of}
use Rattle.twkb_table.proofs.RootLemmas.{has_root, in_record, waits_alone}
use Rattle.twkb_table.proofs.RowReaderLemmas.{if_refused}
use Rattle.twkb_table.proofs.row_reader.RowReader.begin.Goals as goal

pub begin_kept-requires : goal.begin_kept-requires
begin_kept-requires c = record {
  waits = has_root c.args.self.now.state c.args.self.now.points.items (sym c.if-has_its_points.ensures);
}

pub returns-in-Ok-clause-put : goal.returns-in-Ok-clause-put
returns-in-Ok-clause-put c rows waits =
    let old = c.args.self.now in
    waits_alone old.limits old.state old.points.items (fields_of c.args.csv_record.now) rows waits
    (has_root old.state old.points.items (sym c.if-has_its_points.ensures))
    ∙ sym c.in-Ok.ensures.put

pub returns-in-Ok-begin_decoded-clause-put : goal.returns-in-Ok-begin_decoded-clause-put
returns-in-Ok-begin_decoded-clause-put c rows waits =
    let old = c.args.self.now in
    c.in-Ok-begin_decoded.ensures.put rows (in_record old.limits old.state old.points.items
    (fields_of c.args.csv_record.now) rows (sym c.if-has_its_points.ensures)
    c.requires.waits waits)

pub returns-in-Err-begin_decoded-clause-memory : goal.returns-in-Err-begin_decoded-clause-memory
returns-in-Err-begin_decoded-clause-memory c =
    let old = c.args.self.now in
    if_refused _ _ c.in-Err-begin_decoded.stop (λ reason none rows waits. none rows
    (in_record old.limits old.state old.points.items (fields_of c.args.csv_record.now) rows
    (sym c.if-has_its_points.ensures) c.requires.waits waits))
    c.in-Err-begin_decoded.ensures.memory
