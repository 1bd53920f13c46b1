-- The records of the members so far were written.
use Rattle.std.proofs.Common.{[], ◌∷◌}
use Rattle.twkb_tree.specs.Rows.{plain_row}
use Rattle.twkb_table.proofs.LineLemmas.{HasWritten}
use Rattle.twkb_table.proofs.geometry_text.write_lines.Given as goal

abbrev pub invariant-loop-line : goal.invariant-loop-line
invariant-loop-line l = HasWritten (λ id ps. plain_row l.depth l.kind id ps ∷ []) l.ids l.lines
    l.line-index l.index l.fn.records.writer l.records.writer
