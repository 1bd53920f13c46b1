use Rattle.std.proofs.Common.{◌-◌, false, length}
use Rattle.twkb_features.specs.Taken.{Takes}
use Rattle.twkb_features.proofs.nesting.Nesting.take_blocks.Given as goal

abbrev pub invariant-loop-at : goal.invariant-loop-at
invariant-loop-at l = Takes l.fn.self l.depth l.bytes l.at false l.self

abbrev pub decreases-loop-at : goal.decreases-loop-at
decreases-loop-at l = length l.bytes - l.at
