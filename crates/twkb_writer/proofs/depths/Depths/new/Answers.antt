use Rattle.twkb_writer.proofs.MeasuringParts.{blank_totals}
use Rattle.twkb_writer.proofs.depths.Depths.new.Goals as goal

pub invariant_of-result : goal.invariant_of-result
invariant_of-result c = blank_totals c.blank.result c.blank.ensures

pub returns : goal.returns
returns c = blank_totals c.blank.result c.blank.ensures
