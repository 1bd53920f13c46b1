use Rattle.std.proofs.Common.{◌∷◌, ◌++◌, [], List, refl, ap, sym, ◌∙◌, subst, arith}
use Rattle.std.proofs.lemmas.Result.{err_from_is_err_and}
use Rattle.csv.specs.Records.{fields_of}
use Rattle.twkb_flat.specs.Rows.{row_with}
use Rattle.twkb_tree.specs.Admits.{Continues}
use Rattle.twkb_tree.specs.Limits.{largest_limits}
use Rattle.twkb_tree.specs.Rows.{Row}
use Rattle.twkb_tree.proofs.LimitLaws.{continues_largest}
use Rattle.twkb_table.proofs.RootLemmas.{decoded, opened_root, root_again, root_not_refused, root_stands}
use Rattle.twkb_table.proofs.RowReaderLemmas.{keeps_first, stands_nowhere}
use Rattle.twkb_table.proofs.row_reader.RowReader.begin_decoded.Goals as goal

pub push_from-requires : goal.push_from-requires
push_from-requires c own given =
    let l = c.args.self.now.limits in
    let next = decoded l (fields_of c.args.csv_record.now) c.in-Ok.head c.row-row.result own
    (λ v j. c.in-Ok.ensures v j [] stands_nowhere) c.row-row.ensures given in
    subst (λ (rs : List Row). Continues largest_limits rs (row_with c.row-row.result own)) (sym c.requires.empty)
    (continues_largest l [] (row_with c.row-row.result own) c.args.self.now.sound next.begins)

pub open_row-requires : goal.open_row-requires
open_row-requires c =
    let own = c.in_ok-push_from.ensures.pushed in
    let next = decoded c.args.self.now.limits (fields_of c.args.csv_record.now) c.in-Ok.head c.row-row.result
    own.0 (λ v j. c.in-Ok.ensures v j [] stands_nowhere) c.row-row.ensures own.2 in
    omega (arith, next.begins.1)

pub returns-clause-put : goal.returns-clause-put
returns-clause-put c =
    let own = c.in_ok-push_from.ensures.pushed in
    let l = c.args.self.now.limits in
    let fields = fields_of c.args.csv_record.now in
    let row = row_with c.row-row.result own.0 in
    let next = decoded l fields c.in-Ok.head c.row-row.result
    own.0 (λ v j. c.in-Ok.ensures v j [] stands_nowhere) c.row-row.ensures own.2 in
    λ rows waits. root_again l fields rows c.push_from.new.self row next.judged
    (own.1 ∙ ap (λ (rs : List Row). rs ++ row ∷ []) c.requires.empty) waits

pub returns-clause-keeps : goal.returns-clause-keeps
returns-clause-keeps c =
    let own = c.in_ok-push_from.ensures.pushed in
    let l = c.args.self.now.limits in
    let row = row_with c.row-row.result own.0 in
    let next = decoded l (fields_of c.args.csv_record.now) c.in-Ok.head c.row-row.result
    own.0 (λ v j. c.in-Ok.ensures v j [] stands_nowhere) c.row-row.ensures own.2 in (
      keeps_first l row c.push_from.new.self c.open_row.new.self next.begins
          (own.1 ∙ ap (λ (rs : List Row). rs ++ row ∷ []) c.requires.empty)
          (c.in-Ok-open_row.ensures.opened own.0 ∙ opened_root c.args.self.now.open_rows row next.begins.1),
      refl,
    )

pub returns-in-Err-clause-memory : goal.returns-in-Err-clause-memory
returns-in-Err-clause-memory c rows waits = root_stands c.args.self.now.limits
    (fields_of c.args.csv_record.now) rows c.in-Err.reason (c.in-Err.ensures [] stands_nowhere) waits

pub returns-in_err-push_from-clause-memory : goal.returns-in_err-push_from-clause-memory
returns-in_err-push_from-clause-memory c =
    let p = err_from_is_err_and c.from_residual.result c.from_residual.ensures.1 in
    rw (p.1, p.2) (root_not_refused c.args.self.now.limits (fields_of c.args.csv_record.now) c.in-Ok.head
    c.in_err-push_from.field-0.0 (λ v j. c.in-Ok.ensures v j [] stands_nowhere)
    c.in_err-push_from.ensures.refused)
