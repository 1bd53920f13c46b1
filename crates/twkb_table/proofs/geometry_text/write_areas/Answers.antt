use Rattle.twkb_table.proofs.LineLemmas.{area_written, has_written_all, has_written_more, has_written_none}
use Rattle.twkb_table.proofs.geometry_text.write_areas.Goals as goal

pub loop-rings-init : goal.loop-rings-init
loop-rings-init c = has_written_none c.requires.ready

pub loop-rings-preserved : goal.loop-rings-preserved
loop-rings-preserved c =
    has_written_more c.loop-rings.invariant c.loop-rings-test.true
    c.rings-item.is c.id_at.ensures
    (area_written _ _ _ _ _ _ _ c.in_ok-write_part.ensures c.as_slice.ensures.items c.in_ok-write_lines.ensures)

pub returns : goal.returns
returns c = has_written_all c.loop-rings.invariant c.loop-rings-test.false
