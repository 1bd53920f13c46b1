-- The records of the members so far were written.
use Rattle.std.proofs.Common.{[], ◌∷◌}
use Rattle.twkb_tree.specs.Rows.{plain_row}
use Rattle.twkb_tree.specs.declared.kind.Kind.{Kind}
use Rattle.twkb_table.proofs.LineLemmas.{HasWritten}
use Rattle.twkb_table.proofs.geometry_text.write_points.Given as goal

abbrev pub invariant-loop-point : goal.invariant-loop-point
invariant-loop-point l = HasWritten (λ id p. plain_row l.depth Kind.Point id (p ∷ []) ∷ []) l.ids
    l.points l.point-index l.index l.fn.records.writer l.records.writer
