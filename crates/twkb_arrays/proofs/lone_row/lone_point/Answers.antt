use Rattle.std.proofs.Common.{pos, rules}
use Rattle.twkb_buffer.specs.declared.point.BufferPoint.{BufferPoint}
use Rattle.twkb_arrays.proofs.TakingLemmas.{begins_point}
use Rattle.twkb_arrays.proofs.lone_row.lone_point.Goals as goal

abbrev none : BufferPoint
none = record { x = pos 0; y = pos 0 }

pub returns : goal.returns
returns c = begins_point c.args.limits c.args.row.now c.args.ahead.now none c.as_point.result
    (search rules) (search rules) (search rules) c.as_point.ensures.in_range c.as_point.ensures.value
