use Rattle.std.proofs.Common.{[], refl, ap, sym, ◌∙◌}
use Rattle.twkb_flat.specs.Rows.{row_with}
use Rattle.twkb_table.specs.Waiting.{root_row, waiting_rows}
use Rattle.twkb_tree.proofs.LimitLaws.{continues_largest}
use Rattle.twkb_table.proofs.RowReaderLemmas.{waiting_begins, keeps_first}
use Rattle.twkb_table.proofs.row_reader.RowReader.begin_kept.Goals as goal

pub begin-requires : goal.begin-requires
begin-requires c =
    let old = c.args.self.now in
    continues_largest old.limits [] _ old.sound
    (waiting_begins old.limits old.state c.in-Waiting.root old.points.items old.waits
    c.in-Waiting.is)

pub returns-clause-put : goal.returns-clause-put
returns-clause-put c = c.in_ok-begin.ensures.begun
    ∙ ap (λ s. waiting_rows s c.args.self.now.points.items) (sym c.in-Waiting.is)

pub returns-clause-keeps : goal.returns-clause-keeps
returns-clause-keeps c =
    let old = c.args.self.now in
    let begins = waiting_begins old.limits old.state c.in-Waiting.root old.points.items old.waits
    c.in-Waiting.is in
    let row = row_with (root_row c.in-Waiting.root) old.points.items in (
      keeps_first old.limits row c.begin.new.self c.open_row.new.self begins
          c.in_ok-begin.ensures.begun (c.in_ok-open_row.ensures.opened old.points.items),
      refl,
    )
