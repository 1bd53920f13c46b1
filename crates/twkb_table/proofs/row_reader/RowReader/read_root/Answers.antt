use Rattle.std.proofs.Common.{[], ◌∷◌, ap, refl}
use Rattle.std.proofs.lemmas.Result.{err_from_is_err_and}
use Rattle.csv.specs.Records.{fields_of}
use Rattle.twkb_tree.specs.Rows.{Row}
use Rattle.twkb_flat.specs.Rows.{row_with}
use Rattle.twkb_table.specs.Judged.{Accepted, Refused}
use Rattle.twkb_table.specs.RowReading.{waiting}
use Rattle.twkb_table.proofs.RowReaderLemmas.{begins_first, if_refused, judged_alone, may_wait_as, root_is}
use Rattle.twkb_table.proofs.RowReaderLemmas.{stands_nowhere}
use Rattle.twkb_table.proofs.row_reader.RowReader.read_root.Goals as goal

pub invariant_of-self-2-clause-waits : goal.invariant_of-self-2-clause-waits
invariant_of-self-2-clause-waits c =
    let l = c.args.self.now.limits in
    let row = row_with c.in_ok-row.row c.judge.new.points.items in
    may_wait_as l c.in_ok-row.row c.judge.new.points.items
    (begins_first l (fields_of c.args.csv_record.now) row (c.in_ok-row.ensures.read []
    stands_nowhere))

pub returns-in_err-row-clause-root : goal.returns-in_err-row-clause-root
returns-in_err-row-clause-root c =
    let old = c.args.self.now in
    let p = err_from_is_err_and c.from_residual.result c.from_residual.ensures.1 in
    rw (p.1, p.2) (
      if_refused _ _ _ (λ reason j. judged_alone old.limits (waiting old)
          (fields_of c.args.csv_record.now)
          (Refused reason) c.requires (j [] stands_nowhere)) c.in_err-row.ensures.refused,
      refl,
    )

pub returns-clause-root : goal.returns-clause-root
returns-clause-root c =
    let old = c.args.self.now in
    let row = row_with c.in_ok-row.row c.judge.new.points.items in
    let judged = c.in_ok-row.ensures.read [] stands_nowhere in
    let begins = begins_first old.limits (fields_of c.args.csv_record.now) row judged in
    record {
      row = row;
      waits = ap (λ (r : Row). r ∷ []) (root_is old.limits c.in_ok-row.row
          c.judge.new.points.items begins);
      root = begins.1;
      judged = judged_alone old.limits (waiting old) (fields_of c.args.csv_record.now)
          (Accepted row) c.requires judged;
    }
