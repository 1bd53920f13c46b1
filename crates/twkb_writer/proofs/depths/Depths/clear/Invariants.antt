-- From this depth on there are no rows.
use Rattle.twkb_writer.specs.Depths.{IsBlankFrom}
use Rattle.twkb_writer.proofs.depths.Depths.clear.Given as goal

abbrev pub invariant-loop-self : goal.invariant-loop-self
invariant-loop-self l = IsBlankFrom l.self-inside.used l.self-inside.by_depth

abbrev pub decreases-loop-self : goal.decreases-loop-self
decreases-loop-self l = l.self-inside.used
