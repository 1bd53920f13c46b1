-- The records of the members so far were written.
use Rattle.twkb_tree.specs.Rows.{polygon_rows}
use Rattle.twkb_table.proofs.LineLemmas.{HasWritten}
use Rattle.twkb_table.proofs.geometry_text.write_areas.Given as goal

abbrev pub invariant-loop-rings : goal.invariant-loop-rings
invariant-loop-rings l = HasWritten (polygon_rows l.depth) l.ids l.areas l.rings-index l.index
    l.fn.records.writer l.records.writer
