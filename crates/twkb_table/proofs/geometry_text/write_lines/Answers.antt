use Rattle.std.proofs.Common.{[], ◌∷◌, subst}
use Rattle.twkb_tree.specs.Rows.{plain_row}
use Rattle.twkb_table.specs.Text.{row_lines, Writes}
use Rattle.twkb_table.proofs.LineLemmas.{has_written_all, has_written_more, has_written_none}
use Rattle.twkb_table.proofs.geometry_text.write_lines.Goals as goal

pub loop-line-init : goal.loop-line-init
loop-line-init c = has_written_none c.requires.ready

pub loop-line-preserved : goal.loop-line-preserved
loop-line-preserved c =
    has_written_more c.loop-line.invariant c.loop-line-test.true c.line-item.is c.id_at.ensures
    (subst (λ ps. Writes c.loop-line.records.writer c.write_part.new.records.writer
    (row_lines (plain_row c.args.depth c.args.kind c.id_at.result ps ∷ [])))
    c.as_slice.ensures.items c.in_ok-write_part.ensures)

pub returns : goal.returns
returns c = has_written_all c.loop-line.invariant c.loop-line-test.false
