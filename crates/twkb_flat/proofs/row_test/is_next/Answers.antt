use Rattle.std.proofs.Common.{arith}
use Rattle.twkb_flat.proofs.LastPoint.{first_next, later_next}
use Rattle.twkb_flat.proofs.row_test.is_next.Goals as goal

pub returns-then-levels-eq0 : goal.returns-then-levels-eq0
returns-then-levels-eq0 c = λ os r all e. first_next c.args.depth os r e (omega (arith, all, c.if-levels-eq0.true))

pub returns-else-levels-eq0 : goal.returns-else-levels-eq0
returns-else-levels-eq0 c = λ os r all e. later_next c.args.depth os r e
    (λ none. omega (arith, all, none, c.if-levels-eq0.false))
