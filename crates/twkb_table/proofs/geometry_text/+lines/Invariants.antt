-- The records of the members so far were written.
use Rattle.twkb_tree.specs.Rows.{rows_with}
use Rattle.twkb_table.proofs.LineLemmas.{HasWritten}
use Rattle.twkb_table.proofs.geometry_text.+lines.Given as goal

abbrev pub invariant-write_members-loop-member : goal.invariant-write_members-loop-member
invariant-write_members-loop-member l = HasWritten (λ id g. rows_with id l.depth g) l.ids
    l.member-items l.member-index l.index l.fn.records.writer l.records.writer
