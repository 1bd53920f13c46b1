use Rattle.std.proofs.Common.{[], ◌∷◌, subst}
use Rattle.twkb_tree.specs.Rows.{plain_row}
use Rattle.twkb_tree.specs.declared.kind.Kind.{Kind}
use Rattle.twkb_table.specs.Text.{row_lines, Writes}
use Rattle.twkb_table.proofs.LineLemmas.{has_written_all, has_written_more, has_written_none}
use Rattle.twkb_table.proofs.geometry_text.write_points.Goals as goal

pub loop-point-init : goal.loop-point-init
loop-point-init c = has_written_none c.requires.ready

pub loop-point-preserved : goal.loop-point-preserved
loop-point-preserved c =
    has_written_more c.loop-point.invariant c.loop-point-test.true
    c.point-item.is c.id_at-id.ensures
    (subst (λ ps. Writes c.loop-point.records.writer c.write_part.new.records.writer
    (row_lines (plain_row c.args.depth Kind.Point c.id_at-id.result ps ∷ [])))
    c.from_ref.ensures.value c.in_ok-write_part.ensures)

pub returns : goal.returns
returns c = has_written_all c.loop-point.invariant c.loop-point-test.false
