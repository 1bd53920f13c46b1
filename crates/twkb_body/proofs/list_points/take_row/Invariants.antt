use Rattle.std.proofs.Common.{length, ◌+◌, ◌-◌}
use Rattle.twkb_body.specs.Running.{ListGoesOn}
use Rattle.twkb_body.proofs.list_points.take_row.Given as goal

-- the bytes so far are points that were taken, and the row takes those that are left
abbrev pub invariant-loop-left : goal.invariant-loop-left
invariant-loop-left l = ListGoesOn l.initial.flat l.initial.position l.bytes l.initial.left
    (record { used = l.used; position = l.position }) l.left l.flat

-- a look for blocks takes no point if there are none, and is not made again before `next_look`
abbrev pub decreases-loop-left : goal.decreases-loop-left
decreases-loop-left l = l.left + (length l.bytes - l.next_look)
