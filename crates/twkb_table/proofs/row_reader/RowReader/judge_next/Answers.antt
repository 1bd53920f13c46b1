use Rattle.std.proofs.Common.{sym, subst}
use Rattle.csv.specs.Records.{fields_of}
use Rattle.twkb_table.specs.RowReading.{Kept}
use Rattle.twkb_table.proofs.RowReaderLemmas.{judged_by, judged_by_open}
use Rattle.twkb_table.proofs.row_reader.RowReader.judge_next.Goals as goal

pub returns : goal.returns
returns c = judged_by _ _ c.judge_head.result (λ v j. judged_by_open c.args.self.now.limits
    c.args.flat.now c.as_slice.result.now _ _ (fields_of c.args.csv_record.now) v
    (subst (Kept c.args.self.now.limits c.args.flat.now) (sym c.as_slice.ensures) c.requires.0)
    c.node_count-nodes.ensures.value c.point_count-count.ensures j) c.judge_head.ensures
