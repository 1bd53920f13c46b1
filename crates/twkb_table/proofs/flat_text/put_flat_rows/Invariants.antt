-- The lines of the rows so far were appended to the text.
use Rattle.twkb_table.proofs.LineLemmas.{RowsPut}
use Rattle.twkb_table.proofs.flat_text.put_flat_rows.Given as goal

abbrev pub invariant-loop-index : goal.invariant-loop-index
invariant-loop-index l = RowsPut l.rows.flat l.index l.fn.text.items l.text.items l.fn.work l.work
