use Rattle.std.proofs.Common.{◌-◌, ◌≤◌}
use Rattle.twkb_body.specs.HeaderParts.{SidesInFront}
use Rattle.twkb_body.proofs.optional_parts.front_box_length.Given as goal

-- so many sides are complete
abbrev pub invariant-loop-count : goal.invariant-loop-count
invariant-loop-count l = record { few : l.count ≤ 4; sides : SidesInFront l.count l.bytes l.used }

abbrev pub decreases-loop-count : goal.decreases-loop-count
decreases-loop-count l = 4 - l.count
